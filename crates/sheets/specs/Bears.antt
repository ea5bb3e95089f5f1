-- What a contract sees of a level as a bearer.
use Rattle.std.specs.Prelude.{ℕ}
use Rattle.powers.specs.declared.enclosure.Enclosure.{Enclosure}

-- a level's height and weight, and the enclosure of its height power
pub record Bears : Type 0 where
  pub height : ℕ
  pub weight : ℕ
  pub power : Enclosure

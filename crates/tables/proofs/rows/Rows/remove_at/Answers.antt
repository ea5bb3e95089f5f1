-- The records after the place go one place down.
use Rattle.std.proofs.Common.{arith}
use Rattle.std.proofs.lemmas.List.{places, same_lists}
use Rattle.tables.proofs.rows.Rows.remove_at.Goals as goal

pub returns : goal.returns
returns g c = same_lists _ _ (grind (arith, places)) (λ j d h. grind (arith, places))

-- The pair of numbers that the digits of an exponent lead to.
use Rattle.std.specs.Prelude.{ℕ, zero, suc, ◌*◌, ◌/◌, ◌%◌, ◌^◌, ◌≤◌, Bool, true, false, eqb}
use Rattle.powers.specs.declared.enclosure.Enclosure.{Enclosure}
use Rattle.powers.specs.declared.height.Progress.{Progress}
use Rattle.powers.specs.Roots.{up, lower_root, upper_root}

-- what stands for 1
abbrev pub scale : ℕ
scale = 67108864

-- the unit of an exponent number
abbrev pub base : ℕ
base = 2048

-- an enclosure of a number up to 1
pub record Small (p : Enclosure) : Type 0 where
  pub ordered : p.lo ≤ p.hi
  pub top : p.hi ≤ scale

-- h / roof
abbrev pub ratio : ℕ → ℕ → Enclosure
ratio h roof = record { lo = h * scale / roof; hi = up (h * scale) roof }

-- the square root of r
abbrev pub rooted : Enclosure → Enclosure
rooted r = record { lo = lower_root (r.lo * scale); hi = upper_root (r.hi * scale) }

-- the product of p and r
abbrev pub times : Enclosure → Enclosure → Enclosure
times p r = record { lo = p.lo * r.lo / scale; hi = up (p.hi * r.hi) scale }

-- the binary digit of e / n with the weight 1 / 2 ^ i
abbrev pub digit : ℕ → ℕ → ℕ → ℕ
digit n e i = e * 2 ^ i / n % 2

-- one digit: the power takes the root as a factor where the digit is 1
abbrev pub taken : Bool → Progress → Progress
taken true s = record { power = times s.power s.root; root = s.root }
taken false s = s

abbrev pub deeper : Progress → Progress
deeper s = record { power = s.power; root = rooted s.root }

-- after the digits of e / n with the weights 1 to 1 / 2 ^ i
unfoldable pub after : (n roof h e : ℕ) → ℕ → Progress
after n roof h e zero = taken (eqb (digit n e 0) 1) (record { power = ratio h roof; root = ratio h roof })
after n roof h e (suc i) = taken (eqb (digit n e (suc i)) 1) (deeper (after n roof h e i))

-- (h / roof) ^ (1 + e / 2048): after the twelve digits with the weights 2048 to 1 in e
unfoldable pub height_power : (roof h e : ℕ) → Enclosure
height_power roof h e = (after base roof h e 11).power

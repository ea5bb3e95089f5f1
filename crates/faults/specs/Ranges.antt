-- Ranges of figures, and the refusal of those outside.
use Rattle.std.specs.Prelude.{ℕ, ◌≤◌, Bool, cond, ◌&&◌, Some, None, Option, nat_le}
use Rattle.faults.specs.declared.fault.Cause.{Cause}
use Rattle.faults.specs.declared.fault.Fault.{Fault}
use Rattle.faults.specs.declared.fault.Layer.TheVariants.{Tables}
use Rattle.faults.specs.declared.range.Range.{Range}
use Rattle.faults.specs.Numbers.{fault}

infixl 20 ◌to◌
abbrev pub ◌to◌ : ℕ → ℕ → Range
a to b = record { least = a; greatest = b }

-- the figure n lies in the range r
abbrev pub Within : Range → ℕ → Type 0
Within r n = (r.least ≤ n) × (n ≤ r.greatest)

-- the same, as a test
abbrev pub within : Range → ℕ → Bool
within r n = nat_le r.least n && nat_le n r.greatest

-- why the figure n is refused, if it lies outside the range r
abbrev pub outside : Range → Cause → ℕ → ℕ → Option Fault
outside r c p n = cond (within r n) None (Some (fault Tables c p))

-- the first of two refusals, tested in their order
infixr 10 ◌or_else◌
abbrev pub ◌or_else◌ : Option Fault → Option Fault → Option Fault
Some f or_else g = Some f
None or_else g = g

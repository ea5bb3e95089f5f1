-- The set has the digits of the numbers passed, and no other.
use Rattle.std.proofs.Common.{◌≡◌, ℕ, ◌<◌, cond, nat_lt}
use Rattle.std.specs.Int.{bit_at}
use Rattle.settings.specs.Sets.{has}
use Rattle.settings.proofs.record.Settings.present.Given as goal

abbrev pub invariant-loop-number : goal.invariant-loop-number
invariant-loop-number l = (k : ℕ) → k < 16 → bit_at l.set k ≡ cond (nat_lt k l.number) (has l.self k) 0

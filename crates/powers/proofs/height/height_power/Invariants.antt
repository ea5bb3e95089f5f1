-- The digits before the next place are read.
use mathlib.Core.Path.{◌≡◌}
use Prim.Native.Nat.{◌-◌}
use Rattle.powers.specs.Powers.{base, after}
use Rattle.powers.proofs.height.height_power.Given as goal

abbrev pub invariant-loop-place : goal.invariant-loop-place
invariant-loop-place l = l.progress ≡ after base l.roof l.height l.e (l.place - 1)

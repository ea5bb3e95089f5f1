-- The bearers so far are those of the levels so far.
use Rattle.std.proofs.Common.{◌≡◌, map}
use Rattle.sheets.specs.Bearings.{bearing, roof_of}
use Rattle.sheets.proofs.bearing.from_roof.Given as goal

abbrev pub invariant-loop-level : goal.invariant-loop-level
invariant-loop-level l = l.row.items ≡ map (bearing (roof_of l.levels) l.e) (map (λ x. x.now) l.yielded)

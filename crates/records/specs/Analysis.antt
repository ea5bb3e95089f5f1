-- The figures of an analysis and their ranges.
use Rattle.std.specs.Prelude.{◌≡◌, Bool, true, ◌&&◌, Option}
use Rattle.faults.specs.declared.fault.Cause.TheVariants.{ForceUsedRange, DeflectionRange}
use Rattle.faults.specs.declared.fault.Fault.{Fault}
use Rattle.faults.specs.declared.range.Range.{Range}
use Rattle.faults.specs.Ranges.{◌to◌, within, outside, ◌or_else◌}
use Rattle.records.specs.declared.analysis.Analysis.{Analysis}

abbrev pub forces_used : Range
forces_used = 0 to 1000000

-- in 1/1,024 mm: under 4,096 mm
abbrev pub deflections : Range
deflections = 0 to 4194303

-- every figure is in range, as a test
abbrev pub fits : Analysis → Bool
fits a = within forces_used a.force && (within deflections a.centre && (within deflections a.left && within deflections a.right))

abbrev pub FitAnalysis : Analysis → Type 0
FitAnalysis a = fits a ≡ true

-- the force used, which is the place, or the first deflection out of range; its place is 1 for the centre, 2 and 3 for the edges
abbrev pub figure_refusal : Analysis → Option Fault
figure_refusal a =
    outside forces_used ForceUsedRange a.force a.force
    or_else (outside deflections DeflectionRange 1 a.centre
    or_else (outside deflections DeflectionRange 2 a.left
    or_else outside deflections DeflectionRange 3 a.right))

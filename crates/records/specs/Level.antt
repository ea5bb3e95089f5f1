-- A level, its figures and their ranges.
use Rattle.std.specs.Prelude.{ℕ, Bool, ◌&&◌, Option}
use Rattle.faults.specs.declared.fault.Cause.TheVariants.{HeightRange, WeightRange, GravityRange}
use Rattle.faults.specs.declared.fault.Fault.{Fault}
use Rattle.faults.specs.declared.range.Range.{Range}
use Rattle.faults.specs.Ranges.{◌to◌, within, outside, ◌or_else◌}
use Rattle.records.specs.declared.level.Level.{Level}

abbrev pub level : ℕ → ℕ → ℕ → Level
level h w g = record { height = h; weight = w; gravity = g }

abbrev pub height_of : Level → ℕ
height_of x = x.height

abbrev pub weight_of : Level → ℕ
weight_of x = x.weight

abbrev pub heights : Range
heights = 1 to 500000

abbrev pub weights : Range
weights = 1 to 60000

abbrev pub gravity_loads : Range
gravity_loads = 1 to 200000

-- every figure of a level is in range, as a test
abbrev pub fits : Level → Bool
fits x = within heights x.height && (within weights x.weight && within gravity_loads x.gravity)

-- the first figure out of range: height, weight, gravity load; the place is the figure
abbrev pub figure_refusal : Level → Option Fault
figure_refusal x =
    outside heights HeightRange x.height x.height
    or_else (outside weights WeightRange x.weight x.weight
    or_else outside gravity_loads GravityRange x.gravity x.gravity)

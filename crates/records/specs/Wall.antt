-- A wall, its figures and their ranges.
use Rattle.std.specs.Prelude.{ℕ, Bool, ◌&&◌, Option}
use Rattle.faults.specs.declared.fault.Cause.TheVariants.{PositionRange, RigidityRange}
use Rattle.faults.specs.declared.fault.Fault.{Fault}
use Rattle.faults.specs.declared.range.Range.{Range}
use Rattle.faults.specs.Ranges.{◌to◌, within, outside, ◌or_else◌}
use Rattle.records.specs.declared.wall.Wall.{Wall}

abbrev pub wall : ℕ → ℕ → Wall
wall p r = record { position = p; rigidity = r }

abbrev pub position_of : Wall → ℕ
position_of x = x.position

abbrev pub positions : Range
positions = 0 to 500000

abbrev pub rigidities : Range
rigidities = 1 to 60000

-- every figure of a wall is in range, as a test
abbrev pub fits : Wall → Bool
fits x = within positions x.position && within rigidities x.rigidity

-- the first figure out of range: position, rigidity; the place is the figure
abbrev pub figure_refusal : Wall → Option Fault
figure_refusal x = outside positions PositionRange x.position x.position or_else outside rigidities RigidityRange x.rigidity x.rigidity

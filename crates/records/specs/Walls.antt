-- Why entering a wall or striking one out is refused.
use Rattle.std.specs.Prelude.{ℕ, List, Option}
use Rattle.faults.specs.declared.fault.Cause.TheVariants.{WallsFull, WallAbsent}
use Rattle.faults.specs.declared.fault.Fault.{Fault}
use Rattle.tables.specs.Refusals as tables
use Rattle.records.specs.declared.wall.Wall.{Wall}
use Rattle.records.specs.Wall.{position_of, wall, figure_refusal}

-- the first figure out of range; then 16 walls, and none at its position, which is the place
abbrev pub enter_refusal : List Wall → ℕ → ℕ → Option Fault
enter_refusal xs p r = tables.enter_refusal position_of WallsFull figure_refusal 16 xs (wall p r)

-- no wall at the position p, which is the place
abbrev pub absent_refusal : List Wall → ℕ → Option Fault
absent_refusal xs p = tables.none_refusal position_of WallAbsent xs p

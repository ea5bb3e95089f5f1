-- Why entering a level or striking one out is refused.
use Rattle.std.specs.Prelude.{ℕ, List, Option}
use Rattle.faults.specs.declared.fault.Cause.TheVariants.{LevelsFull, LevelAbsent}
use Rattle.faults.specs.declared.fault.Fault.{Fault}
use Rattle.tables.specs.Refusals as tables
use Rattle.records.specs.declared.level.Level.{Level}
use Rattle.records.specs.Level.{height_of, figure_refusal}

-- the first figure out of range; then 64 levels, and none at its height, which is the place
abbrev pub enter_refusal : List Level → Level → Option Fault
enter_refusal xs x = tables.enter_refusal height_of LevelsFull figure_refusal 64 xs x

-- no level at the height h, which is the place
abbrev pub drop_refusal : List Level → ℕ → Option Fault
drop_refusal xs h = tables.none_refusal height_of LevelAbsent xs h

-- What a job answers, from its edition's needed set and meaning and its building's figures.
use Rattle.std.specs.Prelude.{ℕ, cond, List, [], ◌∷◌, ◌++◌, length, drop, Some, None, sum_by, Option, Result, nat_lt}
use Rattle.editions.specs.declared.edition.Answers.{Answers}
use Rattle.editions.specs.Period.{used_period}
use Rattle.faults.specs.declared.fault.Cause.TheVariants.{NoLevels, SettingAbsent, ShearLimit}
use Rattle.faults.specs.declared.fault.Fault.{Fault}
use Rattle.faults.specs.declared.fault.Layer.TheVariants.{Sheet}
use Rattle.faults.specs.Numbers.{fault}
use Rattle.faults.specs.Ranges.{◌or_else◌}
use Rattle.records.specs.declared.level.Level.{Level}
use Rattle.records.specs.Level.{weight_of}
use Rattle.settings.specs.declared.record.Settings.{Settings}
use Rattle.settings.specs.Sets.{lowest_absent}
use Rattle.tables.specs.Table.{listed}
use Rattle.sheets.specs.declared.bearing.Bearing.{Bearing}
use Rattle.sheets.specs.declared.line.Line.{Line}
use Rattle.sheets.specs.declared.line.Totals.{Totals}
use Rattle.sheets.specs.Bearings.{bearings}
use Rattle.sheets.specs.Sheet.{refused, totals, lines, answered, written}
use Rattle.jobs.specs.declared.building.Building.{Building}

-- there is no level
abbrev pub levels_refusal : List Level → Option Fault
levels_refusal [] = Some (fault Sheet NoLevels 0)
levels_refusal (x ∷ xs) = None

-- the lowest setting that is needed is absent
abbrev pub absent_refusal : Option ℕ → Option Fault
absent_refusal None = None
absent_refusal (Some n) = Some (fault Sheet SettingAbsent n)

-- the base shear is above what a sheet shows
abbrev pub shear_refusal : ℕ → Option Fault
shear_refusal v = cond (nat_lt 1000000 v) (Some (fault Sheet ShearLimit v)) None

-- what the edition answers: it is asked for the settings, the sum of the weights and the used period
abbrev pub answers_of : (Settings → ℕ → ℕ → Answers) → Building → Answers
answers_of meaning b = meaning b.settings (sum_by weight_of (listed b.levels)) (used_period b.settings)

module _ (needs : ℕ) (meaning : Settings → ℕ → ℕ → Answers) (b : Building) where
  -- why there are no answers
  abbrev pub answers_refusal : Option Fault
  answers_refusal =
      levels_refusal (listed b.levels) or_else (absent_refusal (lowest_absent b.settings needs) or_else shear_refusal (answers_of meaning b).shear)

  -- the levels as bearers of the base shear
  abbrev pub bearers : List Bearing
  bearers = bearings (answers_of meaning b).exponent (listed b.levels)

  -- why there is no sheet for a list with that room
  abbrev pub sheet_refusal : ℕ → Option Fault
  sheet_refusal room = answers_refusal or_else refused (answers_of meaning b) bearers room

  -- the sheet's totals, or why there is none
  abbrev pub sheet_of : ℕ → Result Totals Fault
  sheet_of room = answered (sheet_refusal room) (totals (answers_of meaning b) bearers)

  -- the caller's list afterwards: at a refusal as it was, else the lines and then what stood beyond them
  abbrev pub list_after : List Line → List Line
  list_after old = written (sheet_refusal (length old)) (lines (answers_of meaning b) bearers ++ drop (length bearers) old) old

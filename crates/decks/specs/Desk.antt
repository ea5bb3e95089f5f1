-- What an entry of a deck does to the job on the desk.
use Rattle.std.specs.Prelude.{◌≡◌, ℕ, [], None, Option, Result}
use Rattle.std.specs.Result.{result_err}
use Rattle.faults.specs.declared.fault.Fault.{Fault}
use Rattle.grammar.specs.declared.entry.Entry.{Entry}
use Rattle.grammar.specs.declared.entry.Entry.TheVariants.{Set, Level, Drop}
use Rattle.jobs.specs.declared.building.Building.{Building}
use Rattle.jobs.specs.Entries.{IsSet, LevelEntered, LevelDropped}
use Rattle.settings.specs.Figures.{entry}
use Rattle.tables.specs.Table.{listed}
use Rattle.decks.specs.declared.desk.Desk.{Desk}

-- a job of that edition with no figure
pub record Blank {E : Type 0} (e : E) (s : Desk E) : Type 0 where
  pub edition : s.job.edition ≡ e
  pub settings : (n : ℕ) → entry s.job.building.settings n ≡ None
  pub levels : listed s.job.building.levels ≡ []
  pub walls : listed s.job.building.walls ≡ []

-- the call that an entry makes, and its result
abbrev pub Changed : Building → Entry → Result (Unit {0}) Fault → Building → Type 0
Changed b (Set n v) r c = IsSet b c n v r
Changed b (Level h w g) r c = LevelEntered b c h w g r
Changed b (Drop h) r c = LevelDropped b c h r

-- the entry was taken, or refused with that fault, and the job keeps its edition
abbrev pub Enters : {E : Type 0} → Desk E → Entry → Option Fault → Desk E → Type 0
Enters s e o t =
    (r : Result (Unit {0}) Fault) × (result_err r ≡ o) × Changed s.job.building e r t.job.building × (t.job.edition ≡ s.job.edition)

-- What an entry changes in a building's figures, and why it is refused. A refusal leaves all of them as they were.
use Rattle.std.specs.Prelude.{◌≡◌, ℕ, cond, is_ok, Some, None, Result, MatchResult, OnErr}
use Rattle.std.specs.Result.{result_err}
use Rattle.faults.specs.declared.fault.Fault.{Fault}
use Rattle.records.specs.Level.{height_of, level}
use Rattle.records.specs.Levels.{enter_refusal, drop_refusal}
use Rattle.records.specs.Wall.{position_of, wall}
use Rattle.records.specs.Walls as walls
use Rattle.settings.specs.Figures.{written, Sets, refusal}
use Rattle.tables.specs.Keys.{Becomes}
use Rattle.tables.specs.Table.{listed}
use Rattle.jobs.specs.declared.building.Building.{Building}

-- the setting n was set to v, or refused
pub record IsSet (old new : Building) (n v : ℕ) (r : Result (Unit {0}) Fault) : Type 0 where
  pub refused : result_err r ≡ refusal n v
  pub settings : new.settings.entries ≡ cond (is_ok r) (written old.settings.entries n v) old.settings.entries
  pub sets : MatchResult r (λ _. Sets old.settings new.settings n v) (λ _. new.settings ≡ old.settings)
  pub levels : new.levels ≡ old.levels
  pub walls : new.walls ≡ old.walls
  pub kept : OnErr r (new ≡ old)

-- a level was entered, or refused
pub record LevelEntered (old new : Building) (h w g : ℕ) (r : Result (Unit {0}) Fault) : Type 0 where
  pub refused : result_err r ≡ enter_refusal (listed old.levels) (level h w g)
  pub levels : MatchResult r (λ _. Becomes height_of (listed old.levels) (listed new.levels) h (Some (level h w g))) (λ _. new.levels ≡ old.levels)
  pub settings : new.settings ≡ old.settings
  pub walls : new.walls ≡ old.walls
  pub kept : OnErr r (new ≡ old)

-- the level at the height h was dropped, or refused
pub record LevelDropped (old new : Building) (h : ℕ) (r : Result (Unit {0}) Fault) : Type 0 where
  pub refused : result_err r ≡ drop_refusal (listed old.levels) h
  pub levels : MatchResult r (λ _. Becomes height_of (listed old.levels) (listed new.levels) h None) (λ _. new.levels ≡ old.levels)
  pub settings : new.settings ≡ old.settings
  pub walls : new.walls ≡ old.walls
  pub kept : OnErr r (new ≡ old)

-- a wall was entered, or refused
pub record WallEntered (old new : Building) (p g : ℕ) (r : Result (Unit {0}) Fault) : Type 0 where
  pub refused : result_err r ≡ walls.enter_refusal (listed old.walls) p g
  pub walls : MatchResult r (λ _. Becomes position_of (listed old.walls) (listed new.walls) p (Some (wall p g))) (λ _. new.walls ≡ old.walls)
  pub settings : new.settings ≡ old.settings
  pub levels : new.levels ≡ old.levels
  pub kept : OnErr r (new ≡ old)

-- the wall at the position p was dropped, or refused
pub record WallDropped (old new : Building) (p : ℕ) (r : Result (Unit {0}) Fault) : Type 0 where
  pub refused : result_err r ≡ walls.absent_refusal (listed old.walls) p
  pub walls : MatchResult r (λ _. Becomes position_of (listed old.walls) (listed new.walls) p None) (λ _. new.walls ≡ old.walls)
  pub settings : new.settings ≡ old.settings
  pub levels : new.levels ≡ old.levels
  pub kept : OnErr r (new ≡ old)

-- The laws of a sheet, on its own lines and totals.
use Rattle.std.specs.Prelude.{◌≡◌, ℕ, ◌+◌, ◌-◌, ◌*◌, ◌<◌, List, length, get_or, take, sum_by, slice_index_or}
use Rattle.editions.specs.declared.edition.Answers.{Answers}
use Rattle.records.specs.declared.level.Level.{Level}
use Rattle.sheets.specs.declared.line.Line.{Line}
use Rattle.sheets.specs.declared.line.Totals.{Totals}
use Rattle.sheets.specs.Bearings.{blank}
use Rattle.sheets.specs.Sheet.{no_line}

-- the k-th level from the roof
abbrev pub level_at : List Level → ℕ → Level
level_at levels k = slice_index_or levels (length levels - 1 - k) blank

pub record Sound (a : Answers) (levels : List Level) (t : Totals) (ls : List Line) : Type 0 where
  -- a line for each level, from the roof down
  pub count : length ls ≡ length levels
  pub heights : (k : ℕ) → k < length levels → (get_or ls k no_line).height ≡ (level_at levels k).height
  -- the forces add up to the base shear
  pub whole : sum_by (λ l. l.force) ls ≡ a.shear
  -- the shear under a level is the sum of the forces at and above it
  pub sheared : (k : ℕ) → k < length levels → (get_or ls k no_line).shear ≡ sum_by (λ l. l.force) (take (k + 1) ls)
  -- the moment at a level: each force above it times its height above the level
  pub turned : (k : ℕ) → k < length levels → (get_or ls k no_line).moment ≡ sum_by (λ l. l.force * (l.height - (get_or ls k no_line).height)) (take k ls)
  -- the totals: the base shear, and the moment of all forces at the base
  pub base : t.shear ≡ a.shear
  pub based : t.moment ≡ sum_by (λ l. l.force * l.height) ls

-- The levels as bearers, from the roof down: each with the enclosure of its height power, and its stake.
use Rattle.std.specs.Prelude.{ℕ, ◌-◌, ◌*◌, ◌<◌, ◌≤◌, List, map, reverse, length, sum_by, slice_index_or}
use Rattle.std.specs.List.{AllByRecursion}
use Rattle.powers.specs.Powers.{Small, height_power}
use Rattle.records.specs.declared.level.Level.{Level}
use Rattle.records.specs.Level.{level}
use Rattle.sheets.specs.declared.bearing.Bearing.{Bearing}

-- a level's height and weight are in range
pub record Ranged (x : Level) : Type 0 where
  pub height : (1 ≤ x.height) × (x.height ≤ 500000)
  pub weight : (1 ≤ x.weight) × (x.weight ≤ 60000)

-- what a list of levels reads as past its end
abbrev pub blank : Level
blank = level 0 0 0

-- levels that have a sheet: at least one, at most 64, in range, and rising strictly
pub record Standing (levels : List Level) : Type 0 where
  pub some : 1 ≤ length levels
  pub few : length levels ≤ 64
  pub ranged : AllByRecursion Ranged levels
  pub rises : (i j : ℕ) → i < j → j < length levels → (slice_index_or levels i blank).height < (slice_index_or levels j blank).height

-- the roof is the highest level
abbrev pub roof_of : List Level → ℕ
roof_of levels = (slice_index_or levels (length levels - 1) blank).height

-- a level with the enclosure of (its height / the roof's) ^ (1 + e / 2048)
abbrev pub bearing : ℕ → ℕ → Level → Bearing
bearing roof e x = record { height = x.height; weight = x.weight; power = height_power roof x.height e }

-- the levels from the roof down
unfoldable pub bearings : ℕ → List Level → List Bearing
bearings e levels = map (bearing (roof_of levels) e) (reverse levels)

-- what a list of bearers reads as past its end
abbrev pub ground : Bearing
ground = record { height = 0; weight = 0; power = record { lo = 0; hi = 0 } }

abbrev pub height_at : List Bearing → ℕ → ℕ
height_at bs k = (slice_index_or bs k ground).height

-- a level's stake: its weight times the lower end of its power; and the same with the upper end
abbrev pub stake : Bearing → ℕ
stake b = b.weight * b.power.lo

abbrev pub upper : Bearing → ℕ
upper b = b.weight * b.power.hi

-- what is true of the bearer of a level in range
pub record Borne (b : Bearing) : Type 0 where
  pub height : b.height ≤ 500000
  pub weight : b.weight ≤ 60000
  pub power : Small b.power

-- bearers that have a sheet
pub record Falling (bs : List Bearing) : Type 0 where
  pub few : length bs ≤ 64
  pub borne : AllByRecursion Borne bs
  pub stands : 0 < sum_by stake bs
  pub falls : (i j : ℕ) → i < j → j < length bs → height_at bs j ≤ height_at bs i

-- What the levels share, each level's force, and the least and the greatest that it can be.
use Rattle.std.specs.Prelude.{◌≡◌, ℕ, zero, suc, ◌+◌, ◌-◌, ◌*◌, ◌/◌, ◌<◌, ◌≤◌, Bool, List, reverse, length, take, sum_by, Option, nat_lt, slice_index, slice_index_or}
use Rattle.std.specs.List.{find}
use Rattle.std.specs.Option.{option_map}
use Rattle.sheets.specs.declared.bearing.Bearing.{Bearing}
use Rattle.sheets.specs.declared.portion.Portion.{Portion}
use Rattle.sheets.specs.Bearings.{Falling, ground, stake, upper}

-- an amount, and the totals that it is shared by
abbrev pub portion : ℕ → List Bearing → Portion
portion amount bs = record { amount = amount; least = sum_by stake bs; most = sum_by upper bs }

-- an amount within a sheet's limit, with the totals of these bearers
pub record Ready (p : Portion) (bs : List Bearing) : Type 0 where
  pub falling : Falling bs
  pub amount : p.amount ≤ 1000000
  pub totals : p ≡ portion p.amount bs

-- only the roof, which is first, has the top force
abbrev pub at_roof : ℕ → ℕ → ℕ
at_roof top zero = top
at_roof top (suc k) = 0

-- what the top k levels get together: the whole part of what their stakes together are due
unfoldable pub due : ℕ → List Bearing → ℕ → ℕ
due amount bs k = amount * sum_by stake (take k bs) / sum_by stake bs

-- the force at the k-th level from the roof
unfoldable pub force : ℕ → ℕ → List Bearing → ℕ → ℕ
force amount top bs k = (due amount bs (k + 1) - due amount bs k) + at_roof top k

-- a list of each level's force, from the roof down
pub record Forces (amount top : ℕ) (bs : List Bearing) (forces : List ℕ) : Type 0 where
  pub long : length forces ≡ length bs
  pub each : (k : ℕ) → k < length bs → slice_index forces k ≡ force amount top bs k

-- a level's low, rounded down, and high, rounded up, without the top force
abbrev pub low_share : Portion → Bearing → ℕ
low_share p b = p.amount * stake b / p.most

abbrev pub high_share : Portion → Bearing → ℕ
high_share p b = (p.amount * upper b + (p.least - 1)) / p.least

-- a level's low and high lie more than two apart, as a test
abbrev pub uncertain : Portion → Bearing → Bool
uncertain p b = nat_lt (low_share p b + 2) (high_share p b)

-- no such level
abbrev pub Certain : Portion → List Bearing → Type 0
Certain p bs = (k : ℕ) → k < length bs → high_share p (slice_index_or bs k ground) ≤ low_share p (slice_index_or bs k ground) + 2

-- the height of the lowest such level; the lowest is last
unfoldable pub lowest_uncertain : Portion → List Bearing → Option ℕ
lowest_uncertain p bs = option_map (λ b. b.height) (find (uncertain p) (reverse bs))

-- The entries of a record of settings, by number, and the ranges that they keep.
use Rattle.std.specs.Prelude.{◌≡◌, ℕ, List, Some, None, Option, slice_index_or, slice_set}
use Rattle.std.specs.Option.{unwrap_or}
use Rattle.faults.specs.Ranges.{◌to◌, Within}
use Rattle.faults.specs.declared.range.Range.{Range}
use Rattle.settings.specs.Ranges.{range_at}

-- no figure lies in it
abbrev pub nothing : Range
nothing = 1 to 0

-- v lies in the range of the setting n; at a number that is no setting's, nothing does
abbrev pub Allowed : ℕ → ℕ → Type 0
Allowed n v = Within (unwrap_or (range_at n) nothing) v

-- every figure that stands is in its range
abbrev pub InRange : List (Option ℕ) → Type 0
InRange es = (n v : ℕ) → slice_index_or es n None ≡ Some v → Allowed n v

-- the entries es with the figure v at n
abbrev pub written : List (Option ℕ) → ℕ → ℕ → List (Option ℕ)
written es n v = slice_set es n (Some v)

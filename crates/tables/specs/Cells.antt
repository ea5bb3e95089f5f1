-- The cells of a table and the count of those that are records.
use Rattle.std.specs.Prelude.{◌≡◌, ℕ, ◌≤◌, List, length, take}

-- the cells are n, and the count does not pass them, so it is that of the records
abbrev pub Whole : {R : Type 0} → ℕ → List R → ℕ → Type 0
Whole n cells count = (length cells ≡ n) × (count ≤ n) × (length (take count cells) ≡ count)

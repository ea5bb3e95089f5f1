-- Lists of records by a key: a table as a map from keys to records.
use Rattle.std.specs.Prelude.{◌≡◌, ℕ, ◌<◌, ◌≤◌, cond, List, [], ◌∷◌, length, Some, None, Option, ◌==◌, nat_eq, slice_index_or}
use Rattle.std.specs.Map.{update}

-- P holds of each record
abbrev pub Each : {R : Type 0} → (R → Type 0) → List R → Type 0
Each {R} P xs = (i : ℕ) (d : R) → i < length xs → P (slice_index_or xs i d)

module _ {R : Type 0} (key : R → ℕ) where
  -- the record found at the key k, if there is one
  abbrev pub found : List R → ℕ → Option R
  found [] k = None
  found (x ∷ xs) k = cond (k == key x) (Some x) (found xs k)

  -- keys rise strictly
  abbrev pub Rising : List R → Type 0
  Rising xs = (i j : ℕ) (d : R) → (i < j) × (j < length xs) → key (slice_index_or xs i d) < key (slice_index_or xs j d)

  -- the record at place i has the key k
  pub record Holds (xs : List R) (k i : ℕ) : Type 0 where
    pub within : i < length xs
    pub here : (d : R) → key (slice_index_or xs i d) ≡ k

  -- no record has the key k, and one with it would stand at place i
  pub record Lacks (xs : List R) (k i : ℕ) : Type 0 where
    pub within : i ≤ length xs
    pub before : (j : ℕ) (d : R) → j < i → key (slice_index_or xs j d) < k
    pub after : (j : ℕ) (d : R) → i ≤ j → j < length xs → k < key (slice_index_or xs j d)

  -- n records, and none at the key k
  abbrev pub Full : ℕ → List R → ℕ → Type 0
  Full n xs k = (found xs k ≡ None) × (length xs ≡ n)

  -- ys finds w at the key k, and at every other key what xs finds
  pub record Becomes (xs ys : List R) (k : ℕ) (w : Option R) : Type 0 where
    pub rising : Rising ys
    pub finds : (q : ℕ) → found ys q ≡ update nat_eq (found xs) k w q

  -- x went into xs, of n records at most: it stands at its key
  pub record Entered (n : ℕ) (xs ys : List R) (x : R) : Type 0 where
    pub room : Full n xs (key x) → ⊥
    pub becomes : Becomes xs ys (key x) (Some x)

  -- the record at the key k went out of xs
  pub record Struck (xs ys : List R) (k : ℕ) : Type 0 where
    pub stood : found xs k ≡ None → ⊥
    pub becomes : Becomes xs ys k None

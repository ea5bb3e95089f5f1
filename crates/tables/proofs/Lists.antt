-- The first records of a row of cells: one of them, and all after one is put over another.
use Rattle.std.proofs.Common.{rules, ◌≡◌, ℕ, ◌<◌, ◌≤◌, List, length, get_or, take, set, arith}
use Rattle.std.proofs.lemmas.Bool.{cases_eq}
use Rattle.std.proofs.lemmas.List.{places, same_lists, length-set, get_or-take, get_or_default, get_or-set_same}

module _ {R : Type 0} where
  -- a cell below n is a record of the first n
  pub taken : (xs : List R) (n i : ℕ) (d e : R) → i < n → n ≤ length xs → get_or xs i d ≡ get_or (take n xs) i e
  taken xs n i d e l h = grind (arith, get_or_default xs i d e, get_or-take n xs i e)

  pub take_put : (xs : List R) (n i : ℕ) (x : R) → take n (set xs i x) ≡ set (take n xs) i x
  take_put xs n i x = same_lists _ _ (search (rules, places)) (λ k d h. grind (arith, places, length-set, get_or-set_same, cases_eq k i))

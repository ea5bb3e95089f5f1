-- What a binary search by key answers in a list of rising keys.
use Rattle.std.proofs.Common.{ℕ, List, length, Result, Ok, Err, MatchResult, sym, arith}
use Rattle.std.proofs.lemmas.Bool.Decides.{nat_tests}
use Rattle.std.proofs.lemmas.Bool.{cases_eq}
use Rattle.std.proofs.lemmas.Cmp.{ranked}
use Rattle.std.specs.List.Sorted.{IsSearchInRange, IsBinarySearchResult, IsNonDecreasingBy}
use Rattle.std.specs.Ordering.{nat_cmp, ordering_index}
use Rattle.tables.specs.Keys.{Rising, Holds, Lacks}

module _ {R : Type 0} (key : R → ℕ) (xs : List R) (up : Rising key xs) (k : ℕ) where
  -- the comparisons with k rise along the list, as a binary search asks
  comparisons_rise : IsNonDecreasingBy (λ x. ordering_index (nat_cmp (key x) k)) xs
  comparisons_rise i j d le within = grind (arith, nat_tests, up i j d, cases_eq i j)

  pub sought : (r : Result ℕ ℕ) → IsSearchInRange r (length xs) → IsBinarySearchResult (λ x. nat_cmp (key x) k) xs r → MatchResult r (Holds key xs k) (Lacks key xs k)
  sought (Ok i) within equal = record { within = within; here = λ d. ranked _ k _ (sym (equal d)) }
  sought (Err i) within parted = record {
    within = within;
    before = λ j d lt. ranked _ k _ (sym ((parted comparisons_rise).0 j d (omega arith) lt));
    after = λ j d le lt. ranked _ k _ (sym ((parted comparisons_rise).1 j d le lt));
  }

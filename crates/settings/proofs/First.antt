-- The first absent number of a set, found by going through the numbers in order.
use Rattle.std.proofs.Common.{◌≡◌, ℕ, zero, suc, ◌+◌, ◌<◌, ◌≤◌, true, false, is_some, Some, None, Option, sym, refl, arith}
use Rattle.std.proofs.lemmas.Bool.Decides.{nat_tests}
use Rattle.settings.specs.declared.record.Settings.{Settings}
use Rattle.settings.specs.Figures.{entry}
use Rattle.settings.specs.Sets.{Member, Least, Lowest, lacking, first_absent, lowest_absent}

module _ (s : Settings) (m : ℕ) where
  not_lacking : (n : ℕ) → (Member m n → is_some (entry s n) ≡ true) → lacking s m n ≡ false
  not_lacking n h = grind (arith, nat_tests)

  here : (n : ℕ) → Least s m n → lacking s m n ≡ true
  here n least = grind (arith, nat_tests)

  first_none : (k n : ℕ) → ((i : ℕ) → n ≤ i → i < n + k → Member m i → is_some (entry s i) ≡ true) → first_absent s m n k ≡ None
  unfolding first_absent
  first_none zero n h = refl
  first_none (suc k) n h =
      rw (not_lacking n (h n (omega arith) (omega arith))) (first_none k (n + 1) (λ i l u. h i (omega arith) (omega arith)))

  first_some : (i k n j : ℕ) → n + i ≡ j → i < k → Least s m j → first_absent s m n k ≡ Some j
  unfolding first_absent
  first_some i zero n j e l least = absurd (omega arith)
  first_some zero (suc k) n j e l least =
      let same : n ≡ j = omega arith in
      rw (same, here j least)
  first_some (suc i) (suc k) n j e l least =
      rw (not_lacking n (least.before n (omega arith))) (first_some i k (n + 1) j (omega arith) (omega arith) least)

  pub lowest_is : (r : Option ℕ) → Lowest s m r → r ≡ lowest_absent s m
  lowest_is None present = sym (first_none 16 0 (λ i l u. present i (omega arith)))
  lowest_is (Some j) least = sym (first_some j 16 0 j (omega arith) least.below least)

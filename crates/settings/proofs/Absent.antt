-- The lowest digit that is needed and not present.
use Rattle.std.proofs.Common.{◌≡◌, ℕ, ◌-◌, ◌<◌, min, true, is_some, Some, None, Option, bit_and, refl, ap, ◌∙◌, arith}
use Rattle.std.specs.Int.{bit_at, w16, trailing_zeros}
use Rattle.std.proofs.lemmas.Nat.Bits.{bit_at-lt, bit_at-zero, bit_at_and, bit_at_not, bit_at-trailing_zeros}
use Rattle.settings.specs.declared.record.Settings.{Settings}
use Rattle.settings.specs.Figures.{entry}
use Rattle.settings.specs.Sets.{flag, has, Present, Least}

-- of a digit b that is needed, and the digit d of what is needed and not present: d is 1 only where the figure is absent
lacks : (o : Option ℕ) (b d : ℕ) → b < 2 → d ≡ min b (1 - flag o) → d ≡ 1 → (b ≡ 1) × (o ≡ None)
lacks (Some x) b d l e h = absurd (omega arith)
lacks None b d l e h = (omega arith, refl)

-- and 0 only where it stands or is not needed
stands : (o : Option ℕ) (b d : ℕ) → d ≡ min b (1 - flag o) → d ≡ 0 → b ≡ 1 → is_some o ≡ true
stands (Some x) b d e h k = refl
stands None b d e h k = absurd (omega arith)

module _ (s : Settings) (m p : ℕ) (fits : p < 65536) (is : (n : ℕ) → n < 16 → bit_at p n ≡ has s n) where
  digit : (n : ℕ) → n < 16 → bit_at (bit_and m (65535 - p)) n ≡ min (bit_at m n) (1 - has s n)
  digit n l = bit_at_and m (65535 - p) n ∙ ap (min (bit_at m n)) (bit_at_not w16 p n fits l ∙ ap (λ x. 1 - x) (is n l))

  pub all_present : bit_and m (65535 - p) ≡ 0 → Present m s
  all_present none n l member = stands (entry s n) (bit_at m n) _ (digit n l) (ap (λ x. bit_at x n) none ∙ bit_at-zero n) member

  pub least : 0 < bit_and m (65535 - p) → bit_and m (65535 - p) < 65536 → Least s m (trailing_zeros w16 (bit_and m (65535 - p)))
  least some below =
      let t = trailing_zeros w16 (bit_and m (65535 - p)) in
      let low = bit_at-trailing_zeros w16 (bit_and m (65535 - p)) some below in
      let here = lacks (entry s t) (bit_at m t) _ (bit_at-lt m t) (digit t low.0) low.1 in
      record {
        below = low.0;
        member = here.0;
        absent = here.1;
        before = λ k l member. stands (entry s k) (bit_at m k) _ (digit k (omega (arith, low.0))) (low.2 k l) member;
      }

-- Each turn sets the number's digit, or passes it by.
use Rattle.std.proofs.Common.{◌≡◌, ℕ, ◌+◌, ◌*◌, ◌%◌, ◌^◌, ◌<◌, cond, nat_lt, bit_or, ◌∙◌, subst, arith, rules, ⊎_elim}
use Rattle.std.specs.Int.{bit_at, w16}
use Rattle.std.proofs.lemmas.Bool.{cases_eq}
use Rattle.std.proofs.lemmas.Bool.Decides.{nat_tests}
use Rattle.std.proofs.lemmas.Nat.Bits.{bit_at_set_same, bit_at_set_other}
use Rattle.settings.specs.Sets.{has}
use Rattle.settings.proofs.record.Settings.present.Goals as goal
use Rattle.settings.proofs.record.Settings.present.Goals.{then-is_some, else-is_some}

-- m has the digits f below n
abbrev Upto : (ℕ → ℕ) → ℕ → ℕ → Type 0
Upto f m n = (k : ℕ) → k < 16 → bit_at m k ≡ cond (nat_lt k n) (f k) 0

put : (f : ℕ → ℕ) (m n : ℕ) → n < 16 → Upto f m n → f n ≡ 1 → Upto f (bit_or m (1 * 2 ^ n % 2 ^ 16)) (n + 1)
put f m n l h e k b =
    ⊎_elim (λ (same : k ≡ n). rw same (bit_at_set_same w16 m n l ∙ grind (arith, nat_tests)))
    (λ (other : k ≡ n → ⊥). bit_at_set_other w16 m n l k other ∙ h k b ∙ grind (arith, nat_tests)) (cases_eq k n)

pass : (f : ℕ → ℕ) (m n : ℕ) → Upto f m n → f n ≡ 0 → Upto f m (n + 1)
pass f m n h e k b =
    ⊎_elim (λ (same : k ≡ n). rw same (h n (subst (λ i. i < 16) same b) ∙ grind (arith, nat_tests)))
    (λ (other : k ≡ n → ⊥). h k b ∙ grind (arith, nat_tests)) (cases_eq k n)

pub loop-number-preserved : goal.loop-number-preserved
loop-number-preserved c =
    let f = has c.args.self.now in
    let l = c.loop-number in
    elim c.if-is_some.branch [
      | then-is_some w ↦ rw w.set-is (put f l.set l.number c.loop-number-test.true l.invariant (search rules))
      | else-is_some w ↦ rw w.set-is (pass f l.set l.number l.invariant (search rules))
    ]

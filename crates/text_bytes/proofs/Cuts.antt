-- What the first mark cuts a text into, and how many pieces the marks make.
use Rattle.std.proofs.Common.{◌≡◌, ℕ, suc, ◌+◌, ltb, eqb, true, false, List, [], ◌∷◌, length, get_or, take, drop, count_by, sym, refl, ap, ◌∙◌, inl, inr, arith, Option, Some, None, MatchOption, position}
use Rattle.std.specs.Borrow.{Bor}
use Rattle.std.specs.List.{position_or_len}
use Rattle.std.specs.Option.{unwrap_or}
use Rattle.std.proofs.lemmas.List.Recursion.{is_count_by}
use Rattle.std.proofs.lemmas.Bool.{cases_Bool, cond-true, cond-false, both_ways}
use Rattle.std.proofs.lemmas.Bool.Decides.{nat_tests}
use Rattle.text_bytes.specs.Pieces.{has, before, after, others}

pub counted : (c : ℕ) (bs : List ℕ) → count_by (λ b. eqb b c) bs ≡ length (others c bs)
counted c bs = sym (is_count_by (λ (z : List ℕ). length (others c z)) (λ b. eqb b c) refl (λ b z. elim (cases_Bool (eqb b c)) [ inl t ↦ rw t (omega arith) | inr f ↦ rw f refl ]) bs)

-- the place where the mark is looked for, and the parts on both sides of it
module _ (c : ℕ) where
  abbrev place : List ℕ → ℕ
  place bs = position_or_len (λ b. eqb b c) bs

  parts : (bs : List ℕ) → (has c bs ≡ ltb (place bs) (length bs)) × (take (place bs) bs ≡ before c bs) × (drop (place bs + 1) bs ≡ after c bs)
  parts [] = (refl, refl, refl)
  parts (b ∷ bs) =
      let p = parts bs in
      elim (cases_Bool (eqb b c)) [
        | inl t ↦ rw t (grind (arith, nat_tests), refl, refl)
        | inr f ↦
            let one : 1 + place bs ≡ suc (place bs) = omega arith in
            let two : 1 + place bs + 1 ≡ suc (place bs + 1) = omega arith in
            rw f (p.0 ∙ grind (arith, nat_tests), rw one (ap (λ (z : List ℕ). b ∷ z) p.1), rw two p.2)
      ]

  pub cut : (bs : List ℕ) (o : Option ℕ) → o ≡ position (λ b. eqb b c) bs → MatchOption o (has c bs ≡ false) (λ i. (has c bs ≡ true) × (take i bs ≡ before c bs) × (drop (i + 1) bs ≡ after c bs))
  cut bs o e =
      let p = parts bs in
      elim (cases_Bool (ltb (place bs) (length bs))) [
        | inl t ↦ rw (e ∙ cond-true _ (Some (place bs)) None t) (p.0 ∙ t, p.1, p.2)
        | inr f ↦ rw (e ∙ cond-false _ (Some (place bs)) None f) (p.0 ∙ f)
      ]

  -- the pieces one by one
  pub none : (bs : List ℕ) → has c bs ≡ false → (before c bs ≡ bs) × (after c bs ≡ []) × (others c bs ≡ [])
  none [] h = (refl, refl, refl)
  none (b ∷ bs) h = elim (cases_Bool (eqb b c)) [ inl t ↦ absurd (both_ways true (rw t at h) refl) | inr f ↦ let n = none bs (rw f at h) in rw f (ap (λ (z : List ℕ). b ∷ z) n.0, n.1, n.2) ]

  pub first_other : (bs : List ℕ) → before c (after c bs) ≡ get_or (others c bs) 0 []
  first_other [] = refl
  first_other (b ∷ bs) = elim (cases_Bool (eqb b c)) [ inl t ↦ rw t refl | inr f ↦ rw f (first_other bs) ]

  pub next_other : (bs : List ℕ) (k : ℕ) → get_or (others c (after c bs)) k [] ≡ get_or (others c bs) (suc k) []
  next_other [] k = refl
  next_other (b ∷ bs) k = elim (cases_Bool (eqb b c)) [ inl t ↦ rw t refl | inr f ↦ rw f (next_other bs k) ]

  -- the first piece and what comes after it, of a text that may have no mark
  pub piece : (bs : List ℕ) (o : Option (Bor (List ℕ) × Bor (List ℕ))) (d : Bor (List ℕ) × Bor (List ℕ)) → MatchOption o (has c bs ≡ false) (λ p. (has c bs ≡ true) × (p.0.now ≡ before c bs) × (p.1.now ≡ after c bs)) →
      d.0.now ≡ bs → d.1.now ≡ [] → ((unwrap_or o d).0.now ≡ before c bs) × ((unwrap_or o d).1.now ≡ after c bs)
  piece bs None d h x y = let n = none bs h in (x ∙ sym n.0, y ∙ sym n.1)
  piece bs (Some p) d h x y = (h.1, h.2)

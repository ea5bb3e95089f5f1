-- A line that is read leaves fewer bytes.
use Rattle.std.proofs.Common.{◌≡◌, ℕ, ◌<◌, Bool, true, eqb, List, [], ◌∷◌, length, Ok, Err, Result, sym, ap, ◌∙◌, inl, inr, arith}
use Rattle.std.proofs.lemmas.Bool.{cases_Bool, cond-true, cond-false}
use Rattle.text_bytes.specs.Pieces.{has, after}
use Rattle.faults.specs.declared.fault.Fault.{Fault}
use Rattle.grammar.specs.Lines.{malformed, then, in_line}

after_shorter : (c : ℕ) (bs : List ℕ) → has c bs ≡ true → length (after c bs) < length bs
after_shorter c [] h = absurd cc
after_shorter c (b ∷ bs) h = elim (cases_Bool (eqb b c)) [ inl t ↦ rw t (omega arith) | inr f ↦ let l = after_shorter c bs (rw f at h) in rw f (omega arith) ]

then_rest : {X : Type 0} (r : Result X Fault) (x : X) (bs rest : List ℕ) → then {Y = X × List ℕ} r (λ y. Ok (y, bs)) ≡ Ok (x, rest) → bs ≡ rest
then_rest {X} (Ok y) x bs rest e = let p : ◌≡◌ {A = X × List ℕ} (y, bs) (x, rest) = cc in ap (λ (q : X × List ℕ). q.1) p
then_rest (Err f) x bs rest e = absurd cc

pub line_shorter : {X : Type 0} (read : Bool → List ℕ → Result X Fault) (x : X) (bs rest : List ℕ) → in_line read bs ≡ Ok (x, rest) → length rest < length bs
line_shorter {X} read x bs rest e =
    elim (cases_Bool (has 10 bs)) [
      | inl t ↦ let r = then_rest _ x (after 10 bs) rest (sym (cond-true (has 10 bs) _ (Err malformed) t) ∙ e) in omega (arith, ap length r, after_shorter 10 bs t)
      | inr f ↦ let z : ◌≡◌ {A = Result (X × List ℕ) Fault} (Err malformed) (Ok (x, rest)) = sym (cond-false (has 10 bs) _ (Err malformed) f) ∙ e in absurd cc
    ]

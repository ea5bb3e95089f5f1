-- What is read of a word is the number that it writes.
use Rattle.std.proofs.Common.{◌≡◌, ℕ, ◌+◌, ◌-◌, ◌*◌, Bool, true, false, ◌&&◌, leb, List, [], ◌∷◌, length, Some, None, Option, sym, refl, ap, ◌∙◌, inl, inr, arith, MatchOption, cond}
use Rattle.std.specs.Char.{digit_value}
use Rattle.std.specs.Int.{IsInRange}
use Rattle.std.specs.Str.{all_ascii_digits}
use Rattle.std.specs.Str.Parse.{digits_value, digits_value_after}
use Rattle.std.proofs.lemmas.Str.{digit_value_digit}
use Rattle.std.proofs.lemmas.Str.Parse.{IsNumeralModel, numerals_by_value, tells_all_ascii_digits}
use Rattle.std.proofs.lemmas.Bool.{cases_Bool, cond-true, and_from, and_parts, le-leb, leb-true}
use Rattle.text_bytes.specs.Numbers.{digit, read_on, number_in, Number}

own : IsNumeralModel (λ d. all_ascii_digits d ≡ true) (digits_value 10)
own = numerals_by_value _ tells_all_ascii_digits

-- `read_on` reads digits as the library's words do
pub digit_in : (b : ℕ) → digit b ≡ true → IsInRange 48 57 b
digit_in b h = let p = and_parts (leb 48 b) (leb b 57) h in let x = leb-true 48 b p.0 in let y = leb-true b 57 p.1 in (x, y)

read_digits : (n : ℕ) (d : List ℕ) → read_on n d ≡ cond (all_ascii_digits d) (Some (digits_value_after 10 n d)) None
read_digits n [] = refl
read_digits n (b ∷ d) =
    elim (cases_Bool (digit b)) [
      | inl t ↦ let v : digit_value b ≡ b - 48 = omega (arith, digit_value_digit b (digit_in b t)) in rw (t, v) (read_digits (n * 10 + (b - 48)) d)
      | inr f ↦ rw f refl
    ]

number_is : (d : List ℕ) → number_in d ≡ cond (leb 1 (length d) && leb (length d) 9) (cond (all_ascii_digits d) (Some (digits_value 10 d)) None) None
number_is d = ap (λ (z : Option ℕ). cond (leb 1 (length d) && leb (length d) 9) z None) (read_digits 0 d)

number_read : (n : ℕ) (d : List ℕ) → Number n d → number_in d ≡ Some n
number_read n d h =
    number_is d
    ∙ cond-true _ (cond (all_ascii_digits d) (Some (digits_value 10 d)) None) None (and_from (leb 1 (length d)) (leb (length d) 9) (le-leb 1 (length d) h.0) (le-leb (length d) 9 h.1))
    ∙ cond-true _ (Some (digits_value 10 d)) None (own.from d h.2)
    ∙ ap Some h.3

both : (z y : Bool) (v n : ℕ) → cond z (cond y (Some v) None) None ≡ Some n → (z ≡ true) × (y ≡ true) × (v ≡ n)
both true true v n e = (refl, refl, cc)
both true false v n e = absurd cc
both false y v n e = absurd cc

number_sound : (n : ℕ) (d : List ℕ) → number_in d ≡ Some n → Number n d
number_sound n d h =
    let b = both (leb 1 (length d) && leb (length d) 9) (all_ascii_digits d) (digits_value 10 d) n (sym (number_is d) ∙ h) in
    let p = and_parts (leb 1 (length d)) (leb (length d) 9) b.0 in
    (leb-true 1 (length d) p.0, leb-true (length d) 9 p.1, own.to d b.1, b.2)

pub number_reads : (d : List ℕ) (o : Option ℕ) → o ≡ number_in d → MatchOption o ((n : ℕ) → Number n d → ⊥) (λ n. Number n d)
number_reads d None e = λ n h. let z : ◌≡◌ {A = Option ℕ} None (Some n) = e ∙ number_read n d h in absurd cc
number_reads d (Some n) e = number_sound n d (sym e)

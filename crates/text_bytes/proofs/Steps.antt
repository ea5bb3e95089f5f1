-- One digit more of a number.
use Rattle.std.proofs.Common.{◌≡◌, ℕ, ◌+◌, ◌-◌, ◌*◌, ◌^◌, ◌<◌, ◌≤◌, true, ◌&&◌, leb, List, length, get_or, drop, Some, None, ap, ◌∙◌, inl, inr, arith, pow-add}
use native.Mathlib.Nat.{pow-le-pow_right}
use Rattle.std.specs.Char.{digit_value}
use Rattle.std.proofs.lemmas.List.{drop_more, drop_all}
use Rattle.std.proofs.lemmas.Str.{digit_value_digit}
use Rattle.std.proofs.lemmas.Str.Parse.{digit_from_value}
use Rattle.std.proofs.lemmas.Bool.{cases_Bool, cond-true, cond-false, and_from, le-leb}
use Rattle.text_bytes.specs.Numbers.{digit, read_on, number_in}
use Rattle.text_bytes.proofs.Reading.{digit_in}

-- with eight digits read, the next one still fits
pub small : (i n : ℕ) → i < 9 → n < 10 ^ i → n < 100000000
small i n h k = let l : i ≤ 8 = omega arith in let p : 10 ^ i ≤ 10 ^ 8 = pow-le-pow_right (omega arith) l in omega arith

pub grows : (i n d : ℕ) → n < 10 ^ i → d < 10 → n * 10 + d < 10 ^ (i + 1)
grows i n d h k = let e : 10 ^ (i + 1) ≡ 10 ^ i * 10 = pow-add 10 i 1 in omega arith

pub in_range : (w : List ℕ) → 1 ≤ length w → length w ≤ 9 → number_in w ≡ read_on 0 w
in_range w a b = cond-true (leb 1 (length w) && leb (length w) 9) (read_on 0 w) None (and_from (leb 1 (length w)) (leb (length w) 9) (le-leb 1 (length w) a) (le-leb (length w) 9 b))

pub step : (w : List ℕ) (i n : ℕ) → i < length w → digit_value (get_or w i 0) < 10 → read_on n (drop i w) ≡ read_on (n * 10 + digit_value (get_or w i 0)) (drop (i + 1) w)
step w i n h v =
    let b = get_or w i 0 in
    let r = digit_from_value b v in
    let d : digit b ≡ true = and_from (leb 48 b) (leb b 57) (le-leb 48 b r.0) (le-leb b 57 r.1) in
    let e : b - 48 ≡ digit_value b = omega (arith, digit_value_digit b r) in
    ap (read_on n) (drop_more w i 0 h) ∙ cond-true (digit b) (read_on (n * 10 + (b - 48)) (drop (i + 1) w)) None d ∙ ap (λ (z : ℕ). read_on (n * 10 + z) (drop (i + 1) w)) e

pub stop : (w : List ℕ) (i n : ℕ) → i < length w → (digit_value (get_or w i 0) < 10 → ⊥) → read_on n (drop i w) ≡ None
stop w i n h v =
    let b = get_or w i 0 in
    elim (cases_Bool (digit b)) [
      | inl t ↦ let r = digit_in b t in absurd (v (omega (arith, digit_value_digit b r, r.1)))
      | inr f ↦ ap (read_on n) (drop_more w i 0 h) ∙ cond-false (digit b) (read_on (n * 10 + (b - 48)) (drop (i + 1) w)) None f
    ]

pub end : (w : List ℕ) (i n : ℕ) → length w ≤ i → read_on n (drop i w) ≡ Some n
end w i n h = ap (read_on n) (drop_all i w h)

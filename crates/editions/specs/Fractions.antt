-- Laws of fractions.
use Rattle.std.specs.Prelude.{◌≡◌, ℕ, zero, suc, ◌+◌, ◌*◌, ◌<◌, ◌≤◌, min, nat_le}
use Rattle.std.proofs.Common.{mul-le-mul_right, le_of_mul-le-mul_right, mul_right_comm, mul-pos, zero-mul, add-mul, arith}
use Rattle.std.proofs.lemmas.Bool.{cond_both}
use Rattle.std.proofs.lemmas.Bool.Decides.{nat_tests}
use Rattle.std.proofs.lemmas.Grind.{common_steps, div_ceil_times}
use Rattle.editions.specs.declared.ratio.Ratio.{Ratio}
use Rattle.editions.specs.Ratios.{AtMost, smaller, larger, up, Ceiling}

-- n is the quotient q times d, and the remainder r: rounded up, it is the least number that times d is not below n
above : (q r d n : ℕ) → q * d + r ≡ n → r < d → n ≤ (q + min 1 r) * d
above q zero d n e h = rw add-mul (omega arith)
above q (suc r) d n e h = grind (arith, add-mul)

least : (q r d n u : ℕ) → q * d + r ≡ n → n ≤ u * d → 0 < d → q + min 1 r ≤ u
least q r d n u e h p = grind (arith, common_steps)

pub up_ceiling : (p : Ratio) → 0 < p.den → Ceiling p (up p)
up_ceiling p d = record { above = (div_ceil_times p.num p.den d).0; least = λ u h. grind (arith, common_steps) }

-- at most a whole number
pub up_le : (p : Ratio) (k : ℕ) → 0 < p.den → p.num ≤ k * p.den → up p ≤ k
up_le p k d h = (up_ceiling p d).least k h

one_up : (p : Ratio) (v : ℕ) → Ceiling p v → 0 < p.num → 1 ≤ v
one_up p zero c h = absurd (omega (arith, c.above, zero-mul p.den))
one_up p (suc v) c h = omega arith

pub up_pos : (p : Ratio) → 0 < p.den → 0 < p.num → 1 ≤ up p
up_pos p d h = one_up p (up p) (up_ceiling p d) h

pub at_most_trans : (p q s : Ratio) → 0 < q.den → AtMost p q → AtMost q s → AtMost p s
at_most_trans p q s d h k =
    let a : p.num * s.den * q.den ≤ q.num * p.den * s.den = rw (mul_right_comm p.num s.den q.den) (mul-le-mul_right s.den h) in
    let b : q.num * p.den * s.den ≤ s.num * p.den * q.den =
    rw (mul_right_comm q.num p.den s.den, mul_right_comm s.num p.den q.den) (mul-le-mul_right p.den k) in
    le_of_mul-le-mul_right {k = q.den} (omega arith) d

pub smaller_left : (p q : Ratio) → AtMost (smaller p q) p
smaller_left p q = grind (arith, nat_tests)

pub larger_left : (p q : Ratio) → AtMost p (larger p q)
larger_left p q = grind (arith, nat_tests)

pub larger_right : (p q : Ratio) → AtMost q (larger p q)
larger_right p q = grind (arith, nat_tests)

-- what holds of both fractions holds of the smaller and of the larger
pub smaller_is : (p q : Ratio) (P : Ratio → Type 0) → P p → P q → P (smaller p q)
smaller_is p q P h k = cond_both (nat_le (p.num * q.den) (q.num * p.den)) p q P (λ e. h) (λ e. k)

pub larger_is : (p q : Ratio) (P : Ratio → Type 0) → P p → P q → P (larger p q)
larger_is p q P h k = cond_both (nat_le (p.num * q.den) (q.num * p.den)) q p P (λ e. k) (λ e. h)

-- a fraction that is not below a positive one
pos_of : (a b c d : ℕ) → a * b ≤ c * d → 0 < a → 0 < b → 0 < c
pos_of a b c d h p q = grind (arith, mul-pos p q)

pub pos_above : (p q : Ratio) → AtMost p q → 0 < p.num → 0 < q.den → 0 < q.num
pos_above p q h a b = pos_of p.num q.den q.num p.den h a b

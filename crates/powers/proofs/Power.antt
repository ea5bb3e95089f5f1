-- The laws of an enclosure, over any scale q, any base n of the exponent and any exponent k.
use mathlib.Core.Path.{◌≡◌, sym, ap, ◌∙◌}
use mathlib.Core.Logic.{◌≢◌}
use Prim.Native.Nat.{ℕ, zero, suc, ◌+◌, ◌*◌, ◌^◌, ◌≤◌, ◌<◌}
use native.Mathlib.Nat.{mul-le-mul, mul-le-mul_right, le_of_mul-le-mul_right, pow-zero, pow-suc, pow-le-pow_left, pow-lt-pow_left, one-le-pow, one-mul, mul-zero, mul-suc, mul-mul-mul_comm}
use native.Mathlib.Omega.{arith, by_contra}
use lib.Pow.{pow-add}
use Rattle.powers.specs.Law.{Encloses}

pub mul_pow : (a b n : ℕ) → (a * b) ^ n ≡ a ^ n * b ^ n
mul_pow a b zero = simp pow-zero
mul_pow a b (suc n) =
    pow-suc (a * b) n ∙ ap (λ (x : ℕ). x * (a * b)) (mul_pow a b n) ∙ mul-mul-mul_comm (a ^ n) (b ^ n) a b
    ∙ sym (ap (λ (x : ℕ). x * b ^ suc n) (pow-suc a n) ∙ ap (λ (x : ℕ). a ^ n * a * x) (pow-suc b n))

pub pow_mul : (a n j : ℕ) → a ^ (n * j) ≡ (a ^ n) ^ j
pow_mul a n zero = simp (mul-zero, pow-zero)
pow_mul a n (suc j) = simp (mul-suc, pow-add, pow-suc, pow_mul a n j)

pub pow_one : (a : ℕ) → a ^ 1 ≡ a
pow_one a = pow-suc a 0 ∙ simp (pow-zero, one-mul)

-- a power keeps the order, and gives it back
pub pow_back : (a b n : ℕ) → 0 < n → a ^ n ≤ b ^ n → a ≤ b
pow_back a b n p h = by_contra a b (λ l. let z : n ≢ 0 = omega arith in let s = pow-lt-pow_left l z in omega arith)

-- (a / b) ^ n ≤ (d / c) ^ k, multiplied out: what both halves of an enclosure say
abbrev pub Order : (n k a c b d : ℕ) → Type 0
Order n k a c b d = a ^ n * c ^ k ≤ b ^ n * d ^ k

-- both exponents times j
pub raised : (n k j a c b d : ℕ) → Order n k a c b d → Order (n * j) (k * j) a c b d
raised n k j a c b d h =
    let p = pow-le-pow_left h j in
    rw (pow_mul a n j, pow_mul c k j, pow_mul b n j, pow_mul d k j, ← mul_pow, ← mul_pow) p

-- square roots over the scale e
pub rooted : (n k e a c b d x y : ℕ) → x * x ≤ a * e → b * e ≤ y * y → Order n k a c b d → Order (n + n) k x c y d
rooted n k e a c b d x y l u h =
    let p = pow-le-pow_left l n in
    let p' : x ^ n * x ^ n ≤ a ^ n * e ^ n = rw (← mul_pow, ← mul_pow) p in
    let r = pow-le-pow_left u n in
    let r' : b ^ n * e ^ n ≤ y ^ n * y ^ n = rw (← mul_pow, ← mul_pow) r in
    rw (pow-add, pow-add) (omega (arith, mul-le-mul_right (c ^ k) p', mul-le-mul_right (e ^ n) h, mul-le-mul_right (d ^ k) r'))

-- products over the scale e
pub product : (n k j e a c b d f g x y : ℕ) → 0 < e → x * e ≤ a * f → b * g ≤ y * e
    → Order n k a c b d → Order n j f c g d → Order n (k + j) x c y d
product n k j e a c b d f g x y z l u h i =
    let p = pow-le-pow_left l n in
    let p' : x ^ n * e ^ n ≤ a ^ n * f ^ n = rw (← mul_pow, ← mul_pow) p in
    let r = pow-le-pow_left u n in
    let r' : b ^ n * g ^ n ≤ y ^ n * e ^ n = rw (← mul_pow, ← mul_pow) r in
    let m = mul-le-mul h i in
    let t : (x ^ n * (c ^ k * c ^ j)) * e ^ n ≤ (y ^ n * (d ^ k * d ^ j)) * e ^ n =
    omega (arith, mul-le-mul_right (c ^ k * c ^ j) p', m, mul-le-mul_right (d ^ k * d ^ j) r') in
    rw (pow-add, pow-add) (le_of_mul-le-mul_right t (one-le-pow n e z))

-- the two ends stand in order
pub ordered : (q n k roof h lo hi : ℕ) → 0 < n → 0 < roof → Encloses q n k roof h lo hi → lo ≤ hi
ordered q n k roof h lo hi z r s =
    pow_back lo hi n z (le_of_mul-le-mul_right {k = roof ^ k} (omega (arith, s.under, s.over)) (one-le-pow k roof r))

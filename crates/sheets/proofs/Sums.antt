-- Sums over the places below a number.
use Rattle.std.proofs.Common.{◌≡◌, ℕ, zero, suc, ◌+◌, ◌-◌, ◌*◌, ◌<◌, ◌≤◌, map, sum_by, refl, ap, ⊎_elim, add-mul, eq-or-lt_of_le, zero-mul, mul-add, add-one, arith}
use Rattle.std.specs.List.{range_with_len}
use Rattle.std.proofs.lemmas.List.FromFn.{sum_by-map-range_with_len_more}
use Rattle.sheets.specs.Summed.{summed}

pub summed_none : (f : ℕ → ℕ) → summed 0 f ≡ 0
unfolding summed
summed_none f = refl

pub summed_more : (n : ℕ) (f : ℕ → ℕ) → summed (n + 1) f ≡ summed n f + f n
unfolding summed
summed_more n f = ap (λ (k : ℕ). summed k f) (add-one n)

pub summed_same : (n : ℕ) (f g : ℕ → ℕ) → ((i : ℕ) → i < n → f i ≡ g i) → summed n f ≡ summed n g
unfolding summed
summed_same zero f g same = refl
summed_same (suc n) f g same = omega (arith, summed_same n f g (λ i h. same i (omega arith)), same n (omega arith))

-- each arm longer by the same step
pub longer : (n : ℕ) (f h : ℕ → ℕ) (a b : ℕ) → a ≤ b → ((i : ℕ) → i < n → b ≤ h i) →
    summed n (λ i. f i * (h i - a)) ≡ summed n (λ i. f i * (h i - b)) + summed n f * (b - a)
unfolding summed
longer zero f h a b le above = omega (arith, zero-mul (b - a))
longer (suc n) f h a b le above =
    let arm : h n - a ≡ (h n - b) + (b - a) = omega (arith, above n (omega arith)) in
    omega (arith, longer n f h a b le (λ i l. above i (omega arith)), ap (λ (x : ℕ). f n * x) arm, mul-add (f n) (h n - b) (b - a), add-mul (summed n f) (f n) (b - a))

-- a sum over a listing of the places
pub summed_counting : {X : Type 0} (g : X → ℕ) (f : ℕ → X) (n : ℕ) → sum_by g (map f (range_with_len 0 n)) ≡ summed n (λ i. g (f i))
unfolding summed
summed_counting g f zero = refl
summed_counting g f (suc n) =
    omega (arith, summed_counting g f n, sum_by-map-range_with_len_more g f 0 n n (omega arith), ap (λ (k : ℕ). sum_by g (map f (range_with_len 0 k))) (add-one n))

pub summed_upto : (k n : ℕ) (f : ℕ → ℕ) → k ≤ n → summed k f ≤ summed n f
unfolding summed
summed_upto k zero f h = let e : k ≡ 0 = omega arith in omega (arith, ap (λ (j : ℕ). summed j f) e)
summed_upto k (suc n) f h =
    ⊎_elim
    (λ (e : k ≡ suc n). omega (arith, ap (λ (j : ℕ). summed j f) e))
    (λ (l : k < suc n). omega (arith, summed_upto k n f (omega arith)))
    (eq-or-lt_of_le h)

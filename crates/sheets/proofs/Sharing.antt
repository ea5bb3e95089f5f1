-- The forces, by the running law.
use Rattle.std.proofs.Common.{◌≡◌, ℕ, zero, suc, ◌+◌, ◌-◌, ◌*◌, ◌/◌, ◌<◌, ◌≤◌, List, map, length, get_or, take, set, sum_by, sum, sym, refl, ap, ◌∙◌, mul-zero, mul-div_cancel, add-one, arith}
use native.Mathlib.Nat.{zero-div}
use lib.ListN.{length-map}
use Rattle.std.proofs.lemmas.List.{take-map, take_all, get_or-set_same, get_or-set_other}
use Rattle.std.proofs.lemmas.List.Sums.{sum_by_more, sum-map}
use Rattle.sharing.specs.Sharing.{Shared}
use Rattle.sharing.proofs.Laws.{floors}
use Rattle.sheets.specs.declared.bearing.Bearing.{Bearing}
use Rattle.sheets.specs.declared.portion.Portion.{Portion}
use Rattle.sheets.specs.Summed.{summed}
use Rattle.sheets.specs.Bearings.{ground, stake}
use Rattle.sheets.specs.Shares.{Ready, due, force}
use Rattle.sheets.proofs.Sums.{summed_none, summed_more}

pub due_none : (A : ℕ) (bs : List Bearing) → due A bs 0 ≡ 0
unfolding due
due_none A bs = ap (λ (n : ℕ). n / sum_by stake bs) (mul-zero A) ∙ zero-div (sum_by stake bs)

pub due_all : (A : ℕ) (bs : List Bearing) → 0 < sum_by stake bs → due A bs (length bs) ≡ A
unfolding due
due_all A bs pos = ap (λ (t : List Bearing). A * sum_by stake t / sum_by stake bs) (take_all (length bs) bs (omega arith)) ∙ mul-div_cancel A pos

-- one level more
pub due_step : (A : ℕ) (bs : List Bearing) (k : ℕ) → k < length bs → due A bs (k + 1) ≡ A * (sum_by stake (take k bs) + stake (get_or bs k ground)) / sum_by stake bs
unfolding due
due_step A bs k h = ap (λ (n : ℕ). A * n / sum_by stake bs) (sum_by_more stake bs k ground h)

-- no level gets less than the whole part of its due
pub share_least : (A : ℕ) (bs : List Bearing) (k : ℕ) → 0 < sum_by stake bs → k < length bs → A * stake (get_or bs k ground) / sum_by stake bs + due A bs k ≤ due A bs (k + 1)
unfolding due
share_least A bs k pos h = omega (arith, due_step A bs k h, floors A (sum_by stake (take k bs)) (stake (get_or bs k ground)) (sum_by stake bs) pos)

-- what the top k levels got, by the running law
pub due_shared : (A : ℕ) (bs : List Bearing) (before after : List ℕ) (k : ℕ) → Shared A (map stake bs) before after → k ≤ length bs → sum (take k after) ≡ due A bs k
unfolding due
due_shared A bs before after k sh h =
    let h' : k ≤ length (map stake bs) = rw length-map h in
    let part : sum (take k (map stake bs)) ≡ sum_by stake (take k bs) = ap sum (take-map stake k bs) ∙ sum-map stake (take k bs) in
    sh.running k h' ∙ ap (λ (n : ℕ). A * n / sum (map stake bs)) part ∙ ap (λ (n : ℕ). A * sum_by stake (take k bs) / n) (sum-map stake bs)

pub share_at : (A : ℕ) (bs : List Bearing) (before after : List ℕ) (k : ℕ) → Shared A (map stake bs) before after → k < length bs → k < length after →
    get_or after k 0 ≡ due A bs (k + 1) - due A bs k
share_at A bs before after k sh h ha =
    omega (arith, due_shared A bs before after (k + 1) sh (omega arith), due_shared A bs before after k sh (omega arith), sum_by_more (λ (x : ℕ). x) after k 0 ha)

pub force_at : (A top : ℕ) (bs : List Bearing) (before after : List ℕ) (k : ℕ) → Shared A (map stake bs) before after → k < length bs → length bs ≤ length after →
    get_or (set after 0 (get_or after 0 0 + top)) k 0 ≡ force A top bs k
unfolding force
force_at A top bs before after zero sh h ha =
    get_or-set_same after 0 (get_or after 0 0 + top) 0 (omega arith) ∙ ap (λ (n : ℕ). n + top) (share_at A bs before after 0 sh h (omega arith))
force_at A top bs before after (suc k) sh h ha =
    get_or-set_other after 0 (suc k) (get_or after 0 0 + top) 0 (omega arith) ∙ omega (arith, share_at A bs before after (suc k) sh h (omega arith))

-- the top k levels' forces
pub forces_upto : (A top : ℕ) (bs : List Bearing) (k : ℕ) → 0 < sum_by stake bs → k < length bs → summed (k + 1) (force A top bs) ≡ due A bs (k + 1) + top
unfolding force
forces_upto A top bs zero pos h =
    omega (arith, summed_more 0 (force A top bs), summed_none (force A top bs), due_none A bs)
forces_upto A top bs (suc k) pos h =
    omega (
      arith,
      summed_more (suc k) (force A top bs),
      forces_upto A top bs k pos (omega arith),
      ap (λ (j : ℕ). summed j (force A top bs)) (add-one k),
      ap (due A bs) (add-one k),
      share_least A bs (suc k) pos h,
    )

pub forces_whole : (A top : ℕ) (bs : List Bearing) (n : ℕ) → n ≡ length bs → 0 < n → 0 < sum_by stake bs → summed n (force A top bs) ≡ A + top
forces_whole A top bs n en some pos =
    let e : n ≡ (n - 1) + 1 = omega arith in
    ap (λ (j : ℕ). summed j (force A top bs)) e ∙ forces_upto A top bs (n - 1) pos (omega arith)
    ∙ ap (λ (j : ℕ). due A bs j + top) (sym e ∙ en) ∙ ap (λ (j : ℕ). j + top) (due_all A bs pos)

pub whole_le : (p : Portion) (bs : List Bearing) (top : ℕ) → Ready p bs → 0 < length bs → p.amount + top ≤ 1000000 → summed (length bs) (force p.amount top bs) ≤ 1000000
whole_le p bs top r some cap = omega (arith, forces_whole p.amount top bs (length bs) refl some r.falling.stands)

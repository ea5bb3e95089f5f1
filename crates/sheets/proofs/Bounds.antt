-- Stakes and shares within bounds.
use Rattle.std.proofs.Common.{ℕ, zero, suc, ◌+◌, ◌*◌, ◌/◌, ◌<◌, ◌≤◌, List, [], ◌∷◌, length, get_or, sum_by, ap, mul-le-mul_right, add-mul, mul-le-mul, mul-le-mul_left, arith}
use Rattle.std.specs.List.{AllByRecursion}
use Rattle.std.proofs.lemmas.List.Sums.{sum_by-cons, get_or-le-sum_by}
use Rattle.std.proofs.ByRecursion.{sum_by_le, All-get_or, All-weaker}
use Rattle.std.proofs.lemmas.Nat.{div_below}
use Rattle.powers.specs.Powers.{scale}
use Rattle.sharing.specs.Sharing.{limit}
use Rattle.sheets.specs.declared.bearing.Bearing.{Bearing}
use Rattle.sheets.specs.declared.portion.Portion.{Portion}
use Rattle.sheets.specs.Bearings.{Borne, Falling, ground, stake, upper}
use Rattle.sheets.specs.Shares.{Ready, low_share, at_roof}

pub stake_le : (b : Bearing) → Borne b → stake b ≤ limit
stake_le b h = mul-le-mul {n₂ = 60000} {m₂ = scale} h.weight (omega (arith, h.power))

pub stakes_within : (bs : List Bearing) → AllByRecursion Borne bs → AllByRecursion (λ b. stake b ≤ limit) bs
stakes_within bs h = All-weaker Borne (λ b. stake b ≤ limit) stake_le bs h

pub stake_upper : (b : Bearing) → Borne b → stake b ≤ upper b
stake_upper b h = mul-le-mul_left b.weight h.power.ordered

pub borne_at : (bs : List Bearing) (k : ℕ) → Falling bs → k < length bs → Borne (get_or bs k ground)
borne_at bs k f h = All-get_or Borne bs k ground h f.borne

-- sums compare as their terms do
pub sum_by_mono : {X : Type 0} (f h : X → ℕ) (xs : List X) → AllByRecursion (λ x. f x ≤ h x) xs → sum_by f xs ≤ sum_by h xs
sum_by_mono f h [] a = omega arith
sum_by_mono f h (x ∷ xs) a = omega (arith, sum_by-cons f x xs, sum_by-cons h x xs, a.0, sum_by_mono f h xs a.1)

pub least_most : (bs : List Bearing) → AllByRecursion Borne bs → sum_by stake bs ≤ sum_by upper bs
least_most bs h = sum_by_mono stake upper bs (All-weaker Borne (λ b. stake b ≤ upper b) stake_upper bs h)

pub most_pos : (bs : List Bearing) → Falling bs → 0 < sum_by upper bs
most_pos bs f = omega (arith, least_most bs f.borne, f.stands)

-- a sum of what is within the limit of a stake
pub sum_within : (f : Bearing → ℕ) → ((b : Bearing) → Borne b → f b ≤ limit) → (bs : List Bearing) → Falling bs → sum_by f bs ≤ 64 * limit
sum_within f le bs h =
    omega (arith, sum_by_le f limit bs (All-weaker Borne (λ b. f b ≤ limit) le bs h.borne), mul-le-mul_right limit h.few)

-- a product with the amount
pub amount_le : (a s : ℕ) → a ≤ 1000000 → s ≤ limit → a * s ≤ 1000000 * limit
amount_le a s ha hs = mul-le-mul {n₂ = 1000000} {m₂ = limit} ha hs

pub ready_most : (p : Portion) (bs : List Bearing) → Ready p bs → 0 < p.most
ready_most p bs r = omega (arith, most_pos bs r.falling, ap (λ (q : Portion). q.most) r.totals)

pub ready_least : (p : Portion) (bs : List Bearing) → Ready p bs → (0 < p.least) × (p.least ≤ 64 * limit)
ready_least p bs r =
    (omega (arith, r.falling.stands, ap (λ (q : Portion). q.least) r.totals), omega (arith, sum_within stake stake_le bs r.falling, ap (λ (q : Portion). q.least) r.totals))

-- a low is at most the amount
pub low_amount : (p : Portion) (bs : List Bearing) (k : ℕ) → Ready p bs → k < length bs → low_share p (get_or bs k ground) ≤ 1000000
low_amount p bs k r h =
    let b : Bearing = get_or bs k ground in
    let f = r.falling in
    let m : stake b ≤ p.most =
    omega (arith, ap (λ (q : Portion). q.most) r.totals, stake_upper b (borne_at bs k f h), get_or-le-sum_by upper bs k ground h) in
    let d : p.amount * stake b / p.most < p.amount + 1 =
    div_below (p.amount * stake b) p.most (p.amount + 1) (ready_most p bs r) (omega (arith, mul-le-mul_left p.amount m, add-mul p.amount 1 p.most, ready_most p bs r)) in
    omega (arith, r.amount)

pub roof_share_le : (top k : ℕ) → at_roof top k ≤ top
roof_share_le top zero = omega arith
roof_share_le top (suc k) = omega arith

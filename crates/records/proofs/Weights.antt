-- The sum of the weights of levels in range.
use Rattle.std.proofs.Common.{◌≡◌, ◌*◌, ◌≤◌, true, List, [], ◌∷◌, length, sum_by, suc, suc-le-suc, zero-le, arith}
use Rattle.std.proofs.lemmas.Bool.Decides.{nat_tests}
use Rattle.std.proofs.lemmas.List.Sums.{sum_by-cons}
use Rattle.tables.specs.Keys.{Each}
use Rattle.records.specs.declared.level.Level.{Level}
use Rattle.records.specs.Level.{fits, weight_of}

fit_weight : (x : Level) → fits x ≡ true → (1 ≤ x.weight) × (x.weight ≤ 60000)
fit_weight x h = grind (arith, nat_tests)

-- each weight is from 1 to 60,000
pub weights : (xs : List Level) → Each (λ x. fits x ≡ true) xs → (length xs ≤ sum_by weight_of xs) × (sum_by weight_of xs ≤ 60000 * length xs)
weights [] fit = (zero-le, zero-le)
weights (x ∷ xs) fit =
    let one = fit_weight x (fit 0 x (suc-le-suc zero-le)) in
    let rest = weights xs (λ i d h. fit (suc i) d (suc-le-suc h)) in
    let sum = sum_by-cons weight_of x xs in
    (omega (arith, sum, one.0, rest.0), omega (arith, sum, one.1, rest.1))

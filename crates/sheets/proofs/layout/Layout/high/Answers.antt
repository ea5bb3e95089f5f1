-- A quotient rounded up, by the quotient of the sum with one less than the divisor.
use Rattle.std.proofs.Common.{◌≡◌, ℕ, ◌+◌, ◌-◌, ◌*◌, ◌/◌, ◌%◌, ◌<◌, min, ap, sym, ◌∙◌, arith}
use Rattle.std.proofs.lemmas.Grind.{div_ceil_times}
use Rattle.std.proofs.lemmas.Nat.{div-mul-add}
use Rattle.sheets.proofs.Bounds.{ready_least}
use Rattle.sheets.proofs.layout.Layout.high.Goals as goal

rounded_up : (x d : ℕ) → 0 < d → x / d + min 1 (x % d) ≡ (x + (d - 1)) / d
rounded_up x d h =
    let q : ℕ = x / d + min 1 (x % d) in
    let b = div_ceil_times x d h in
    let r : ℕ = x + (d - 1) - q * d in
    let e : x + (d - 1) ≡ q * d + r = omega (arith, b) in
    let l : r < d = omega (arith, b, e) in
    sym (ap (λ n. n / d) e ∙ div-mul-add q d r l)

pub returns : goal.returns
returns c =
    let p = c.args.self.now.portion in
    c.div_ceil.ensures ∙ rounded_up _ _ (ready_least _ _ c.args.self.now.ready).0
    ∙ ap (λ u. (p.amount * u + (p.least - 1)) / p.least) c.upper.ensures.value

-- Fractions of whole numbers: their order, the smaller and the larger of two, and rounding up.
use Rattle.std.specs.Prelude.{ℕ, ◌+◌, ◌*◌, ◌/◌, ◌%◌, ◌≤◌, min, cond, nat_le}
use Rattle.editions.specs.declared.ratio.Ratio.{Ratio}

infixl 20 ◌over◌
abbrev pub ◌over◌ : ℕ → ℕ → Ratio
n over d = record { num = n; den = d }

-- p is at most q
abbrev pub AtMost : Ratio → Ratio → Type 0
AtMost p q = p.num * q.den ≤ q.num * p.den

abbrev pub smaller : Ratio → Ratio → Ratio
smaller p q = cond (nat_le (p.num * q.den) (q.num * p.den)) p q

abbrev pub larger : Ratio → Ratio → Ratio
larger p q = cond (nat_le (p.num * q.den) (q.num * p.den)) q p

-- the fraction rounded up
abbrev pub up : Ratio → ℕ
up p = p.num / p.den + min 1 (p.num % p.den)

-- v is the least whole number that is not below the fraction
pub record Ceiling (p : Ratio) (v : ℕ) : Type 0 where
  pub above : p.num ≤ v * p.den
  pub least : (u : ℕ) → p.num ≤ u * p.den → v ≤ u

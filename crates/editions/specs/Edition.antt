-- What every edition owes, and of which questions.
use Rattle.std.specs.Prelude.{◌≡◌, ℕ, ◌<◌, ◌≤◌}
use Rattle.settings.specs.declared.record.Settings.{Settings}
use Rattle.settings.specs.declared.setting.Setting.TheVariants.{T, Ta, Cu, Drift, Edge}
use Rattle.settings.specs.Figures.{entry}
use Rattle.settings.specs.Ranges.{number_of}
use Rattle.settings.specs.Sets.{Member, Present}
use Rattle.editions.specs.declared.edition.Answers.{Answers}

-- a set of settings that holds the periods, the coefficient of the limit on them, the allowable drift and the edge rule
pub record Basic (m : ℕ) : Type 0 where
  pub period : Member m (number_of T)
  pub approximate : Member m (number_of Ta)
  pub coefficient : Member m (number_of Cu)
  pub drift : Member m (number_of Drift)
  pub edge : Member m (number_of Edge)

-- a question that an edition which needs the set m answers: the set is present, and weight and period are in range
pub record Asked (m : ℕ) (s : Settings) (w t : ℕ) : Type 0 where
  pub present : Present m s
  pub weight : (1 ≤ w) × (w ≤ 3840000)
  pub period : (1 ≤ t) × (t ≤ 20000)

-- answers within their bounds
pub record Bounded (a : Answers) : Type 0 where
  pub shear : (1 ≤ a.shear) × (a.shear ≤ 100000000)
  pub top : a.top ≤ a.shear
  pub exponent : a.exponent ≤ 2048
  pub drift : a.drift.num ≤ 7000
  pub per : (1 ≤ a.drift.den) × (a.drift.den ≤ 1000)
  pub stability : (20000 ≤ a.stability) × (a.stability ≤ 100000)

-- two records of settings that are equal on the set m
abbrev pub Agree : ℕ → Settings → Settings → Type 0
Agree m s u = (n : ℕ) → n < 16 → Member m n → entry s n ≡ entry u n

-- NEHRP 2003: the base shear, the exponent, the drift factor and the stability divisor.
use Rattle.std.specs.Prelude.{ℕ, ◌-◌, ◌*◌, ◌/◌, ◌≤◌, max, cond, nat_le}
use Rattle.settings.specs.declared.record.Settings.{Settings}
use Rattle.settings.specs.declared.setting.Setting.TheVariants.{R, I, Sds, Sd1, S1, Tl, Cd, Beta}
use Rattle.settings.specs.Figures.{figure}
use Rattle.editions.specs.declared.edition.Answers.{Answers}
use Rattle.editions.specs.declared.nehrp2003.Figures.{Figures}
use Rattle.editions.specs.declared.ratio.Ratio.{Ratio}
use Rattle.editions.specs.Ratios.{◌over◌, smaller, larger, up}

-- the settings 0 to 12
abbrev pub needed : ℕ
needed = 8191

-- the figures that the edition reads
abbrev pub figures : Settings → Figures
figures s = record { r = figure s R; i = figure s I; sds = figure s Sds; sd1 = figure s Sd1; s1 = figure s S1; tl = figure s Tl; cd = figure s Cd; beta = figure s Beta }

-- the fraction a × I × W ÷ (R × k), for the total weight w
abbrev pub share : Figures → ℕ → ℕ → ℕ → Ratio
share f w a k = (a * (f.i * w)) over (f.r * k)

-- the terms of the base shear, for the total weight w and the used period t
module _ (f : Figures) (w t : ℕ) where
  abbrev pub plateau : Ratio
  plateau = share f w f.sds 1000

  -- the period term up to the long-period transition, and after it
  abbrev pub falling : Ratio
  falling = share f w f.sd1 t

  abbrev pub long_falling : Ratio
  long_falling = share f w (f.sd1 * f.tl) (t * t)

  abbrev pub period_term : Ratio
  period_term = cond (nat_le t f.tl) falling long_falling

  abbrev pub floor : Ratio
  floor = w over 100

  -- the floor near a major fault
  abbrev pub near_floor : Ratio
  near_floor = share f w f.s1 2000

  abbrev pub raised : Ratio
  raised = larger (smaller plateau period_term) floor

  -- the fraction that V is rounded up from
  abbrev pub governing : Ratio
  governing = cond (nat_le 600 f.s1) (larger raised near_floor) raised

abbrev pub exponent : ℕ → ℕ
exponent t = cond (nat_le t 500) 0 (cond (nat_le 2500 t) 2048 ((t - 500) * 128 / 125))

abbrev pub answers : Figures → ℕ → ℕ → Answers
answers f w t = record { shear = up (governing f w t); top = 0; exponent = exponent t; drift = f.cd over f.i; stability = max (f.beta * f.cd) 20000 }

-- the edition's meaning
abbrev pub meaning : Settings → ℕ → ℕ → Answers
meaning s w t = answers (figures s) w t

-- figures in their ranges
pub record Fair (f : Figures) : Type 0 where
  pub r : (100 ≤ f.r) × (f.r ≤ 1000)
  pub i : (100 ≤ f.i) × (f.i ≤ 150)
  pub sds : f.sds ≤ 4000
  pub sd1 : f.sd1 ≤ 4000
  pub s1 : f.s1 ≤ 4000
  pub tl : f.tl ≤ 20000
  pub cd : f.cd ≤ 1000
  pub beta : f.beta ≤ 100

-- a weight and a period in their ranges
pub record Loaded (w t : ℕ) : Type 0 where
  pub weight : (1 ≤ w) × (w ≤ 3840000)
  pub period : (1 ≤ t) × (t ≤ 20000)

-- NEHRP 2003: the governing fraction is above 0 and at most 23,040,000, and the laws of an edition.
use Rattle.std.specs.Prelude.{◌≡◌, ℕ, ◌*◌, ◌<◌, ◌≤◌, max, nat_le, refl}
use Rattle.std.proofs.Common.{ap, zero-le, mul-pos, le_trans, arith, lit<, lit≤}
use Rattle.std.specs.Option.{unwrap_or}
use Rattle.std.proofs.lemmas.Nat.{mul-le}
use Rattle.std.proofs.lemmas.Bool.{cond_both}
use Rattle.std.proofs.lemmas.Bool.Decides.{nat_tests}
use Rattle.settings.specs.declared.record.Settings.{Settings}
use Rattle.settings.specs.declared.setting.Setting.{Setting}
use Rattle.settings.specs.declared.setting.Setting.TheVariants.{R, I, Sds, Sd1, S1, Tl, Cd, Beta}
use Rattle.settings.specs.Figures.{figure, Allowed}
use Rattle.settings.specs.Ranges.{number_of}
use Rattle.settings.specs.Sets.{Member, Present}
use Rattle.settings.proofs.Figures.{figure_allowed}
use Rattle.editions.specs.declared.nehrp2003.Figures.{Figures}
use Rattle.editions.specs.declared.ratio.Ratio.{Ratio}
use Rattle.editions.specs.Edition.{Asked, Bounded, Agree}
use Rattle.editions.specs.Ratios.{◌over◌, AtMost, smaller, larger, up}
use Rattle.editions.specs.Nehrp2003.{needed, figures, share, plateau, falling, long_falling, period_term, floor, near_floor, raised, governing, exponent, answers, meaning, Fair, Loaded}
use Rattle.editions.specs.Fractions.{at_most_trans, smaller_left, smaller_is, larger_is, larger_left, larger_right, pos_above, up_le, up_pos}

-- a fraction with a positive base that is at most 23,040,000
abbrev Sound : Ratio → Type 0
Sound p = (0 < p.den) × AtMost p (23040000 over 1)

-- and above 0
abbrev Governs : Ratio → Type 0
Governs p = Sound p × (0 < p.num)

smaller_sound : (p q : Ratio) → Sound p → 0 < q.den → Sound (smaller p q)
smaller_sound p q s d = (smaller_is p q (λ x. 0 < x.den) s.0 d, at_most_trans (smaller p q) p (23040000 over 1) s.0 (smaller_left p q) s.1)

larger_governs : (p q : Ratio) → Sound p → Governs q → Governs (larger p q)
larger_governs p q s g =
    let sound = larger_is p q Sound s g.0 in
    (sound, pos_above q (larger p q) (larger_right p q) g.1 sound.0)

module _ (f : Figures) (h : Fair f) (w t : ℕ) (l : Loaded w t) where
  iw : f.i * w ≤ 576000000
  iw = mul-le f.i w 150 3840000 h.i.1 l.weight.1

  -- an acceleration times the importance factor and the weight
  pub three : (a : ℕ) → a ≤ 4000 → a * (f.i * w) ≤ 2304000000000
  three a m = mul-le a (f.i * w) 4000 576000000 m iw

  pub four : (a b : ℕ) → a ≤ 4000 → b ≤ 20000 → a * b * (f.i * w) ≤ 46080000000000000
  four a b m n = mul-le (a * b) (f.i * w) 80000000 576000000 (mul-le a b 4000 20000 m n) iw

  share_sound : (a k : ℕ) → a ≤ 4000 → 1000 ≤ k → Sound (share f w a k)
  share_sound a k m n =
      let base : 100 * 1000 ≤ f.r * k = mul-le 100 1000 f.r k h.r.0 n in
      (omega arith, omega (arith, three a m))

  plateau_sound : Sound (plateau f w t)
  plateau_sound = share_sound f.sds 1000 h.sds (omega arith)

  near_sound : Sound (near_floor f w t)
  near_sound = share_sound f.s1 2000 h.s1 (omega arith)

  floor_sound : Sound (floor f w t)
  floor_sound = (omega arith, omega (arith, l.weight))

  falling_den : 0 < f.r * t
  falling_den = mul-pos (omega (arith, h.r)) l.period.0

  term_den : 0 < (period_term f w t).den
  term_den =
      cond_both (nat_le t f.tl) (falling f w t) (long_falling f w t) (λ x. 0 < x.den) (λ _. falling_den)
      (λ _. mul-pos (omega (arith, h.r)) (mul-pos l.period.0 l.period.0))

  less_sound : Sound (smaller (plateau f w t) (period_term f w t))
  less_sound = smaller_sound (plateau f w t) (period_term f w t) plateau_sound term_den

  raised_governs : Governs (raised f w t)
  raised_governs = larger_governs (smaller (plateau f w t) (period_term f w t)) (floor f w t) less_sound (floor_sound, l.weight.0)

  raised_sound : Sound (raised f w t)
  raised_sound = raised_governs.0

  raised_pos : 0 < (raised f w t).num
  raised_pos = raised_governs.1

  both_sound : Sound (larger (raised f w t) (near_floor f w t))
  both_sound = larger_is (raised f w t) (near_floor f w t) Sound raised_sound near_sound

  both_pos : 0 < (larger (raised f w t) (near_floor f w t)).num
  both_pos = pos_above (raised f w t) (larger (raised f w t) (near_floor f w t)) (larger_left (raised f w t) (near_floor f w t)) raised_pos both_sound.0

  governs : Governs (governing f w t)
  governs =
      cond_both (nat_le 600 f.s1) (larger (raised f w t) (near_floor f w t)) (raised f w t) Governs (λ _. (both_sound, both_pos)) (λ _. raised_governs)

  pub governing_sound : Sound (governing f w t)
  governing_sound = governs.0

  governing_pos : 0 < (governing f w t).num
  governing_pos = governs.1

  shear_low : 1 ≤ up (governing f w t)
  shear_low = up_pos (governing f w t) governing_sound.0 governing_pos

  pub shear_high : up (governing f w t) ≤ 23040000
  shear_high = up_le (governing f w t) 23040000 governing_sound.0 (omega (arith, governing_sound.1))

exponent_le : (t : ℕ) → exponent t ≤ 2048
exponent_le t = grind (arith, nat_tests)

fair : (s : Settings) → Present needed s → Fair (figures s)
fair s p = record {
  r = at R (lit< tt) refl;
  i = at I (lit< tt) refl;
  sds = (at Sds (lit< tt) refl).1;
  sd1 = (at Sd1 (lit< tt) refl).1;
  s1 = (at S1 (lit< tt) refl).1;
  tl = (at Tl (lit< tt) refl).1;
  cd = (at Cd (lit< tt) refl).1;
  beta = (at Beta (lit< tt) refl).1;
}
  where
    at : (k : Setting) → number_of k < 16 → Member needed (number_of k) → Allowed (number_of k) (figure s k)
    at k l m = figure_allowed s k (p (number_of k) l m)

loaded : {s : Settings} {w t : ℕ} → Asked needed s w t → Loaded w t
loaded a = record { weight = a.weight; period = a.period }

pub bounded : (s : Settings) (w t : ℕ) → Asked needed s w t → Bounded (meaning s w t)
bounded s w t a =
    let f : Fair (figures s) = fair s a.present in
    record {
      shear = (shear_low (figures s) f w t (loaded a), le_trans (shear_high (figures s) f w t (loaded a)) (lit≤ tt));
      top = zero-le;
      exponent = exponent_le t;
      drift = le_trans f.cd (lit≤ tt);
      per = (le_trans (lit≤ tt) f.i.0, le_trans f.i.1 (lit≤ tt));
      stability = between (figure s Beta * figure s Cd) (mul-le (figure s Beta) (figure s Cd) 100 1000 f.beta f.cd);
    }
  where
    between : (n : ℕ) → n ≤ 100000 → (20000 ≤ max n 20000) × (max n 20000 ≤ 100000)
    between n h = (omega arith, omega arith)

figures_same : (s u : Settings) → Agree needed s u → figures s ≡ figures u
figures_same s u a =
    let r = at R (lit< tt) refl in
    let i = at I (lit< tt) refl in
    let sds = at Sds (lit< tt) refl in
    let sd1 = at Sd1 (lit< tt) refl in
    let s1 = at S1 (lit< tt) refl in
    let tl = at Tl (lit< tt) refl in
    let cd = at Cd (lit< tt) refl in
    let beta = at Beta (lit< tt) refl in
    cc
  where
    at : (k : Setting) → number_of k < 16 → Member needed (number_of k) → figure s k ≡ figure u k
    at k l m = ap (λ o. unwrap_or o 0) (a (number_of k) l m)

pub confined : (s u : Settings) (w t : ℕ) → Agree needed s u → meaning s w t ≡ meaning u w t
confined s u w t a = ap (λ f. answers f w t) (figures_same s u a)

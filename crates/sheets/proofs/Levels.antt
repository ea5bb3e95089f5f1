-- The levels from the roof down.
use Rattle.std.proofs.Common.{◌≡◌, ℕ, ◌+◌, ◌-◌, ◌*◌, ◌<◌, ◌≤◌, List, reverse, length, get_or, sym, ap, ◌∙◌, subst, ⊎_elim, mul-le-mul_right, eq-or-lt_of_le, arith}
use lib.ListN.{length-map}
use Rattle.std.proofs.lemmas.List.{get_or-map, get_or-reverse, length-reverse}
use Rattle.std.proofs.ByRecursion.{All-get_or, All-from_get_or}
use Rattle.powers.specs.declared.enclosure.Enclosure.{Enclosure}
use Rattle.powers.specs.Powers.{height_power}
use Rattle.records.specs.declared.level.Level.{Level}
use Rattle.sheets.specs.declared.bearing.Bearing.{Bearing}
use Rattle.powers.specs.Powers.{scale, Small}
use Rattle.powers.proofs.Digits.{power_sound, sound_small, at_roof}
use Rattle.std.proofs.lemmas.List.Sums.{get_or-le-sum_by}
use Rattle.sheets.specs.Bearings.{Ranged, Standing, Borne, Falling, blank, ground, roof_of, bearing, bearings, stake}

pub level_ranged : (levels : List Level) (i : ℕ) → Standing levels → i < length levels → Ranged (get_or levels i blank)
level_ranged levels i st h = All-get_or Ranged levels i blank h st.ranged

-- the same from the roof down
pub ranged_down : (levels : List Level) (k : ℕ) (x : Level) → Standing levels → k < length (reverse levels) → x ≡ get_or (reverse levels) k x → Ranged x
ranged_down levels k x st h e =
    let l : k < length levels = omega (arith, length-reverse levels) in
    subst Ranged (sym (e ∙ get_or-reverse levels k x l)) (All-get_or Ranged levels (length levels - 1 - k) x (omega arith) st.ranged)

pub under_roof : (levels : List Level) (i : ℕ) → Standing levels → i < length levels → (get_or levels i blank).height ≤ roof_of levels
under_roof levels i st h =
    ⊎_elim
    (λ (e : i ≡ length levels - 1). subst (λ (k : ℕ). (get_or levels k blank).height ≤ roof_of levels) (sym e) (omega arith))
    (λ (l : i < length levels - 1).
    let r : (get_or levels i blank).height < roof_of levels = st.rises i (length levels - 1) l (omega (arith, st.some)) in
    omega arith)
    (eq-or-lt_of_le (omega arith))

pub length_bearings : (e : ℕ) (levels : List Level) → length (bearings e levels) ≡ length levels
unfolding bearings
length_bearings e levels = length-map (reverse levels) (bearing (roof_of levels) e) ∙ length-reverse levels

pub bearing_at : (e : ℕ) (levels : List Level) (k : ℕ) (d : Bearing) → k < length levels →
    get_or (bearings e levels) k d ≡ bearing (roof_of levels) e (get_or levels (length levels - 1 - k) blank)
unfolding bearings
bearing_at e levels k d h =
    let h' : k < length (reverse levels) = rw length-reverse h in
    get_or-map (bearing (roof_of levels) e) (reverse levels) k blank d h' ∙ ap (bearing (roof_of levels) e) (get_or-reverse levels k blank h)

pub power_small : (roof h e : ℕ) → e ≤ 2048 → 0 < roof → h ≤ roof → Small (height_power roof h e)
power_small roof h e he r l = sound_small roof h 2048 (2048 + e) (height_power roof h e) r (omega arith) (power_sound roof h e he r l)

pub bearing_borne : (e : ℕ) (levels : List Level) (j : ℕ) → e ≤ 2048 → Standing levels → j < length levels → Borne (bearing (roof_of levels) e (get_or levels j blank))
bearing_borne e levels j he st h =
    let r = level_ranged levels j st h in
    let under = under_roof levels j st h in
    record { height = r.height.1; weight = r.weight.1; power = power_small (roof_of levels) (get_or levels j blank).height e he (omega (arith, r.height)) under }

pub roof_stake : (e : ℕ) (levels : List Level) → Standing levels → 0 < stake (bearing (roof_of levels) e (get_or levels (length levels - 1) blank))
roof_stake e levels st =
    let r = level_ranged levels (length levels - 1) st (omega (arith, st.some)) in
    let lo : (height_power (roof_of levels) (roof_of levels) e).lo ≡ scale = ap (λ (p : Enclosure). p.lo) (at_roof (roof_of levels) e (omega (arith, r.height))) in
    let w = (get_or levels (length levels - 1) blank).weight in
    omega (arith, ap (λ (x : ℕ). w * x) lo, mul-le-mul_right scale r.weight.0)

pub levels_fall : (e : ℕ) (levels : List Level) → e ≤ 2048 → Standing levels → Falling (bearings e levels)
levels_fall e levels he st =
    let n = length_bearings e levels in
    let first : get_or (bearings e levels) 0 ground ≡ bearing (roof_of levels) e (get_or levels (length levels - 1) blank) =
    bearing_at e levels 0 ground (omega (arith, st.some)) ∙ ap (λ (j : ℕ). bearing (roof_of levels) e (get_or levels j blank)) (omega arith) in
    record {
      few = omega (arith, n, st.few);
      borne = All-from_get_or Borne (bearings e levels) ground
          (λ i h. let hl : i < length levels = omega (arith, n) in
          subst Borne (sym (bearing_at e levels i ground hl)) (bearing_borne e levels (length levels - 1 - i) he st (omega arith)));
      stands = omega (arith, roof_stake e levels st, ap stake first, get_or-le-sum_by stake (bearings e levels) 0 ground (omega (arith, n, st.some)));
      falls = λ i j lt h.
          let hj : j < length levels = omega (arith, n) in
          let hi : i < length levels = omega arith in
          let r : (get_or levels (length levels - 1 - j) blank).height < (get_or levels (length levels - 1 - i) blank).height =
          st.rises (length levels - 1 - j) (length levels - 1 - i) (omega arith) (omega arith) in
          omega (arith, r, ap (λ (b : Bearing). b.height) (bearing_at e levels j ground hj), ap (λ (b : Bearing). b.height) (bearing_at e levels i ground hi));
    }

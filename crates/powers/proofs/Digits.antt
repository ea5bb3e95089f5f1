-- The pair that the digits lead to encloses the power.
use mathlib.Core.Path.{◌≡◌, refl, sym, ap, subst, ◌∙◌}
use mathlib.Core.Bool.{Bool, true, false}
use Prim.Native.Nat.{ℕ, zero, suc, ◌+◌, ◌-◌, ◌*◌, ◌/◌, ◌%◌, ◌^◌, ◌≤◌, ◌<◌}
use native.Mathlib.Nat.{div-mul-le_self, pow-suc, two-pow-succ, mul-div-mul_right, mul-div_cancel, mul-div_cancel_left, mul-mod_right, div-div-eq-div-mul, mul_assoc, mul-le-mul_right, mul-le-mul, div-lt_iff_lt-mul}
use native.Mathlib.Omega.{arith}
use lib.Dec.{eqb}
use lib.Pow.{pow_pos}
use borrow.Author.Tests.{eqb-true, eqb-false}
use Rattle.powers.specs.declared.enclosure.Enclosure.{Enclosure}
use Rattle.powers.specs.declared.height.Progress.{Progress}
use Rattle.powers.specs.Law.{Encloses}
use Rattle.powers.specs.Roots.{up, root_of, lower_root, upper_root}
use Rattle.powers.specs.Powers.{scale, base, Small, ratio, rooted, times, digit, taken, deeper, after, height_power}
use Rattle.powers.proofs.Root.{lower_root_is, upper_above, upper_least, up_above, up_least}
use Rattle.powers.proofs.Power as law

pub scale_pos : 0 < scale
scale_pos = omega arith

-- a number up to the scale, times the scale, has a root that is defined
pub scale_fits : (x : ℕ) → x ≤ scale → x * scale < 2 ^ 64
scale_fits x h = omega arith

retarget : (n k m j roof h lo hi : ℕ) → n ≡ m → k ≡ j → Encloses scale n k roof h lo hi → Encloses scale m j roof h lo hi
retarget n k m j roof h lo hi p r s = subst (λ (x : ℕ). Encloses scale x j roof h lo hi) p (subst (λ (x : ℕ). Encloses scale n x roof h lo hi) r s)

-- an enclosure that is at most 1
pub record Sound (roof h n k : ℕ) (p : Enclosure) : Type 0 where
  pub encloses : Encloses scale n k roof h p.lo p.hi
  pub top : p.hi ≤ scale

ratio_sound : (roof h : ℕ) → 0 < roof → h ≤ roof → Sound roof h 1 1 (ratio h roof)
ratio_sound roof h z l =
    record {
      encloses = record {
        under = simp law.pow_one (omega (arith, div-mul-le_self (h * scale) roof));
        over = simp law.pow_one (omega (arith, up_above (h * scale) roof z));
      };
      top = up_least (h * scale) roof scale z (omega (arith, mul-le-mul_right scale l));
    }

-- the lower end is at most the scale too
pub sound_lo : (roof h n k : ℕ) (p : Enclosure) → 0 < roof → 0 < n → Sound roof h n k p → p.lo ≤ p.hi
sound_lo roof h n k p z y s = law.ordered scale n k roof h p.lo p.hi y z s.encloses

rooted_sound : (roof h n k : ℕ) (r : Enclosure) → 0 < roof → 0 < n → Sound roof h n k r → Sound roof h (n + n) k (rooted r)
rooted_sound roof h n k r z y s =
    let lo-top : r.lo ≤ scale = omega (arith, sound_lo roof h n k r z y s, s.top) in
    let lo-fits = scale_fits r.lo lo-top in
    let hi-fits = scale_fits r.hi s.top in
    record {
      encloses = record {
        under = law.rooted n k scale r.lo roof scale h (lower_root (r.lo * scale)) scale (lower_root_is (r.lo * scale) lo-fits).below (omega arith) s.encloses.under;
        over = law.rooted n k scale scale h r.hi roof scale (upper_root (r.hi * scale)) (omega arith) (upper_above (r.hi * scale) hi-fits) s.encloses.over;
      };
      top = upper_least (r.hi * scale) scale hi-fits (mul-le-mul_right scale s.top);
    }

times_sound : (roof h n k j : ℕ) (p r : Enclosure) → Sound roof h n k p → Sound roof h n j r → Sound roof h n (k + j) (times p r)
times_sound roof h n k j p r s t =
    record {
      encloses = record {
        under = law.product n k j scale p.lo roof scale h r.lo scale (p.lo * r.lo / scale) scale scale_pos (div-mul-le_self (p.lo * r.lo) scale) (omega arith) s.encloses.under t.encloses.under;
        over = law.product n k j scale scale h p.hi roof scale r.hi scale (up (p.hi * r.hi) scale) scale_pos (omega arith) (up_above (p.hi * r.hi) scale scale_pos) s.encloses.over t.encloses.over;
      };
      top = up_least (p.hi * r.hi) scale scale scale_pos (mul-le-mul s.top t.top);
    }

doubled_sound : (roof h n k : ℕ) (p : Enclosure) → Sound roof h n k p → Sound roof h (n + n) (k + k) p
doubled_sound roof h n k p s =
    record {
      encloses = retarget (n * 2) (k * 2) (n + n) (k + k) roof h p.lo p.hi (omega arith) (omega arith) (record {
        under = law.raised n k 2 p.lo roof scale h s.encloses.under;
        over = law.raised n k 2 scale h p.hi roof s.encloses.over;
      });
      top = s.top;
    }

-- the power and the root that the next digit takes
pub record Works (roof h n k : ℕ) (s : Progress) : Type 0 where
  pub power : Sound roof h n k s.power
  pub root : Sound roof h n 1 s.root

taken_works : (b : Bool) (roof h n k j : ℕ) (s : Progress) → (b ≡ true → k + 1 ≡ j) → (b ≡ false → k ≡ j) → Works roof h n k s → Works roof h n j (taken b s)
taken_works true roof h n k j s t f w =
    subst (λ (x : ℕ). Works roof h n x (taken true s)) (t refl)
    (record { power = times_sound roof h n k 1 s.power s.root w.power w.root; root = w.root })
taken_works false roof h n k j s t f w = subst (λ (x : ℕ). Works roof h n x s) (f refl) w

deeper_works : (roof h n k : ℕ) (s : Progress) → 0 < roof → 0 < n → Works roof h n k s → Works roof h (n + n) (k + k) (deeper s)
deeper_works roof h n k s z y w =
    record { power = doubled_sound roof h n k s.power w.power; root = rooted_sound roof h n 1 s.root z y w.root }

-- one digit more: twice the number so far, and the digit
one_more : (n e i : ℕ) → 0 < n → e * 2 ^ suc i / n ≡ e * 2 ^ i / n + e * 2 ^ i / n + e * 2 ^ suc i / n % 2
one_more n e i z =
    let p : e * 2 ^ suc i ≡ e * 2 ^ i * 2 = ap (λ (x : ℕ). e * x) (pow-suc 2 i) ∙ sym (mul_assoc e (2 ^ i) 2) in
    let d : e * 2 ^ suc i / n / 2 ≡ e * 2 ^ i / n =
    div-div-eq-div-mul (e * 2 ^ suc i) n 2 ∙ ap (λ (x : ℕ). x / (n * 2)) p ∙ mul-div-mul_right {m = 2} (e * 2 ^ i) n (omega arith) in
    omega arith

pub after_works : (n roof h e i : ℕ) → 0 < n → e < 2 * n → 0 < roof → h ≤ roof → Works roof h (2 ^ i) (2 ^ i + e * 2 ^ i / n) (after n roof h e i)
unfolding after
after_works n roof h e zero y u z l =
    let s = ratio_sound roof h z l in
    let d : e * 1 / n < 2 = (div-lt_iff_lt-mul y).1 (omega arith) in
    taken_works (eqb (digit n e 0) 1) roof h 1 1 (1 + e * 1 / n) _
    (λ t. omega (arith, eqb-true _ _ t)) (λ f. omega (arith, eqb-false _ _ f)) (record { power = s; root = s })
after_works n roof h e (suc i) y u z l =
    let w = after_works n roof h e i y u z l in
    let d = one_more n e i y in
    let v = deeper_works roof h (2 ^ i) (2 ^ i + e * 2 ^ i / n) (after n roof h e i) z (pow_pos i) w in
    subst (λ (x : ℕ). Works roof h x (2 ^ suc i + e * 2 ^ suc i / n) (after n roof h e (suc i))) (sym (two-pow-succ i))
    (taken_works (eqb (digit n e (suc i)) 1) roof h (2 ^ i + 2 ^ i) _ (2 ^ suc i + e * 2 ^ suc i / n) (deeper (after n roof h e i))
    (λ t. omega (arith, eqb-true _ _ t, two-pow-succ i)) (λ f. omega (arith, eqb-false _ _ f, two-pow-succ i)) v)

pub power_sound : (roof h e : ℕ) → e ≤ base → 0 < roof → h ≤ roof → Sound roof h base (base + e) (height_power roof h e)
unfolding height_power
power_sound roof h e u z l =
    subst (λ (x : ℕ). Sound roof h base (base + x) (after base roof h e 11).power) (mul-div_cancel e {n = base} (omega arith))
    (after_works base roof h e 11 (omega arith) (omega arith) z l).power

-- at the roof the ratio is 1, and stays 1
abbrev pub one : Enclosure
one = record { lo = scale; hi = scale }

ratio_one : (roof : ℕ) → 0 < roof → ratio roof roof ≡ one
ratio_one roof z =
    let d = mul-div_cancel_left scale {n = roof} z in
    let m = mul-mod_right roof scale in
    rw (d, m) (ap (λ (x : ℕ). record { lo = scale; hi = x }) (omega arith))

times_one : times one one ≡ one
times_one = refl

rooted_one : rooted one ≡ one
unfolding lower_root root_of
rooted_one = refl

taken_one : (b : Bool) → taken b (record { power = one; root = one }) ≡ record { power = one; root = one }
taken_one true = ap (λ (x : Enclosure). record { power = x; root = one }) times_one
taken_one false = refl

after_one : (n roof e i : ℕ) → 0 < roof → after n roof roof e i ≡ record { power = one; root = one }
unfolding after
after_one n roof e zero z = rw (ratio_one roof z) (taken_one (eqb (digit n e 0) 1))
after_one n roof e (suc i) z = rw (after_one n roof e i z, rooted_one) (taken_one (eqb (digit n e (suc i)) 1))

pub at_roof : (roof e : ℕ) → 0 < roof → height_power roof roof e ≡ one
unfolding height_power
at_roof roof e z = ap (λ (s : Progress). s.power) (after_one base roof e 11 z)

pub sound_small : (roof h n k : ℕ) (p : Enclosure) → 0 < roof → 0 < n → Sound roof h n k p → Small p
sound_small roof h n k p z y s = record { ordered = sound_lo roof h n k p z y s; top = s.top }

pub after_small : (roof h e i : ℕ) → e ≤ base → 0 < roof → h ≤ roof → Small (after base roof h e i).power × Small (after base roof h e i).root
after_small roof h e i u z l =
    let w = after_works base roof h e i (omega arith) (omega arith) z l in
    (sound_small roof h (2 ^ i) _ _ z (pow_pos i) w.power, sound_small roof h (2 ^ i) 1 _ z (pow_pos i) w.root)

pub ratio_small : (roof h : ℕ) → 0 < roof → h ≤ roof → Small (ratio h roof)
ratio_small roof h z l = sound_small roof h 1 1 (ratio h roof) z (omega arith) (ratio_sound roof h z l)

-- a turn of the loop over the digits, and its end
pub after_more : (n roof h e i : ℕ) (b : Bool) (s r : Progress) → 1 ≤ i → s ≡ after n roof h e (i - 1) → b ≡ eqb (digit n e i) 1
    → r ≡ taken b (deeper s) → r ≡ after n roof h e (i + 1 - 1)
unfolding after
after_more n roof h e i b s r l p q t =
    let f : suc (i - 1) ≡ i = omega arith in
    let g : i + 1 - 1 ≡ suc (i - 1) = omega arith in
    cc

pub after_all : (roof h e i : ℕ) (s : Progress) → s ≡ after base roof h e (i - 1) → i ≡ 12 → s.power ≡ height_power roof h e
unfolding height_power
after_all roof h e i s p q = let f : i - 1 ≡ 11 = omega arith in cc

-- The numbers that are multiplied are up to 1; the twelve digits lead to an enclosure of the power.
use mathlib.Core.Path.{◌≡◌, sym, subst}
use Prim.Native.Nat.{◌+◌, ◌-◌}
use native.Mathlib.Omega.{arith}
use Rattle.powers.specs.declared.height.Progress.{Progress}
use Rattle.powers.specs.Powers.{base, Small, height_power}
use Rattle.powers.proofs.Digits.{Sound, ratio_small, after_small, power_sound, sound_small, after_all}
use Rattle.powers.proofs.height.height_power.Goals as goal

pub with_digit-progress-requires : goal.with_digit-progress-requires
with_digit-progress-requires c =
    let s = subst Small (sym c.of_ratio-ratio.ensures) (ratio_small c.args.roof c.args.height (omega arith) (omega arith)) in
    (s, s)

pub next-progress-requires : goal.next-progress-requires
next-progress-requires c =
    subst (λ (s : Progress). Small s.power × Small s.root) (sym c.loop-place.invariant)
    (after_small c.args.roof c.args.height c.args.e (c.loop-place.place - 1) (omega arith) (omega arith) (omega arith))

pub returns : goal.returns
returns c =
    let roof = c.args.roof in
    let h = c.args.height in
    let e = c.args.e in
    let v : c.loop-place.progress.power ≡ height_power roof h e = after_all roof h e c.loop-place.place c.loop-place.progress c.loop-place.invariant (omega arith) in
    let s : Sound roof h base (base + e) c.loop-place.progress.power =
    subst (Sound roof h base (base + e)) (sym v) (power_sound roof h e (omega arith) (omega arith) (omega arith)) in
    record { value = v; encloses = s.encloses; small = sound_small roof h base (base + e) _ (omega arith) (omega arith) s }

-- A figure within its range is written, and every figure stays in its range.
use Rattle.std.proofs.Common.{◌≡◌, subst}
use Rattle.settings.specs.Entries.{Allowed}
use Rattle.settings.proofs.Figures.{allowed, kept}
use Rattle.settings.proofs.record.Settings.set.Goals as goal

pub invariant_of-self : goal.invariant_of-self
invariant_of-self c =
    let n = c.args.number in
    let v = c.args.value in
    let s = c.in_ok-setting.setting in
    let inside = rw c.range.ensures.value at c.in_ok-admit.ensures.within in
    let a = allowed n v s _ c.in_ok-setting.ensures inside in
    record { ranged = kept Allowed c.args.self.now.entries n _ c.args.self.now.ranged (λ x e. let i : v ≡ x = cc in subst (Allowed n) i a) }

-- Each turn goes down to the next level, whose force keeps the shear within V.
use Rattle.std.proofs.Common.{ℕ, ◌+◌, ◌*◌, ◌-◌, get_or, ap, sym, ◌∙◌, arith}
use Rattle.std.proofs.lemmas.List.{length_push, get_or_default}
use Rattle.sheets.specs.declared.bearing.Bearing.{Bearing}
use Rattle.sheets.specs.Bearings.{ground}
use Rattle.sheets.proofs.Sharing.{whole_le}
use Rattle.sheets.proofs.Walks.{turn, turned}
use Rattle.sheets.proofs.Writing.{turned_all, shear_le, written_none, written_next, written_all}
use Rattle.sheets.proofs.layout.Layout.write_lines.Goals as goal

pub loop-k-init : goal.loop-k-init
loop-k-init c =
    let roof = get_or_default c.args.self.now.bearers.now 0 c.index-self-0.result ground c.args.self.now.some in
    let start = c.at-descent.ensures in
    written_none _ _ _ _ _ _ _ _ (start.0 ∙ ap (λ (b : Bearing). b.height) (c.roof.view_is ∙ roof), start.1, start.2)

pub down_to-requires : goal.down_to-requires
down_to-requires c =
    let t = turn _ _ c.next.new.self c.args.self.now.bearers.now c.args.forces.now (record { levels = cc; shares = cc; count = cc; even = c.requires.forces.long }) _ c.loop-k.yielded_by _ _ c.in-Some.is c.next.ensures.steps in
    omega (arith, c.loop-k.invariant.sofar.next t.below, ap (λ (b : Bearing). b.height) (c.bearer.view_is ∙ t.bearer))

pub with_force-descent-requires : goal.with_force-descent-requires
with_force-descent-requires c =
    let t = turn _ _ c.next.new.self c.args.self.now.bearers.now c.args.forces.now (record { levels = cc; shares = cc; count = cc; even = c.requires.forces.long }) _ c.loop-k.yielded_by _ _ c.in-Some.is c.next.ensures.steps in
    let s = shear_le _ _ _ _ _ _ _ 1000000 c.loop-k.invariant.sofar t.below (whole_le _ _ _ c.args.self.now.ready c.args.self.now.some c.args.self.now.capped) in
    omega (arith, s, t.force, c.requires.forces.each _ t.below)

pub line-requires : goal.line-requires
line-requires c =
    let t = turn _ _ c.next.new.self c.args.self.now.bearers.now c.args.forces.now (record { levels = cc; shares = cc; count = cc; even = c.requires.forces.long }) _ c.loop-k.yielded_by _ _ c.in-Some.is c.next.ensures.steps in
    record {
      certain = c.requires.certain;
      place = omega (arith, t.place, t.below);
      bearer = t.bearer ∙ ap (λ (n : ℕ). get_or c.args.self.now.bearers.now n ground) (sym t.place);
    }

pub loop-k-preserved : goal.loop-k-preserved
loop-k-preserved c =
    let t = turn _ _ c.next.new.self c.args.self.now.bearers.now c.args.forces.now (record { levels = cc; shares = cc; count = cc; even = c.requires.forces.long }) _ c.loop-k.yielded_by _ _ c.in-Some.is c.next.ensures.steps in
    let at = ap (λ (b : Bearing). b.height) c.bearer.view_is in
    let d = c.down_to.ensures in
    let w = c.with_force-descent.ensures in
    written_next _ _ _ _ _ _ _ _ _ _ _ _ _ _ _ _ _ _ c.loop-k.invariant t.below (length_push c.loop-k.yielded _) t.place t.bearer (t.force ∙ c.requires.forces.each _ t.below)
    c.args.self.now.ready.falling.falls c.requires.room (w.height ∙ d.height ∙ at) (omega (arith, w.shear, d.shear)) (w.moment ∙ d.moment ∙ ap (λ (h : ℕ). c.loop-k.descent.moment + c.loop-k.descent.shear * (c.loop-k.descent.height - h)) at) c.line.ensures

pub returns : goal.returns
returns c =
    let e = turned _ _ c.next.new.self c.args.self.now.bearers.now c.args.forces.now (record { levels = cc; shares = cc; count = cc; even = c.requires.forces.long }) _ c.loop-k.yielded_by _ c.in-None.is c.next.ensures.steps in
    record {
      lines = written_all _ _ _ _ _ _ _ e c.loop-k.invariant.lines;
      moment = c.down_to-2.ensures.moment ∙ turned_all _ _ _ _ _ _ _ c.loop-k.invariant.sofar e;
    }

-- The levels come from the roof down, and none is above the roof.
use Rattle.std.proofs.Common.{map, length, ap, ◌∙◌, arith}
use lib.ListN.{length-map}
use Rattle.std.proofs.lemmas.Iterator.Adapters.{YieldsList-from_rev_slice}
use Rattle.std.proofs.lemmas.Iterator.Consumers.{YieldsList-turn, YieldsList-end}
use Rattle.std.proofs.lemmas.List.{length-reverse}
use Rattle.records.specs.declared.level.Level.{Level}
use Rattle.sheets.specs.Bearings.{bearing, bearings, roof_of}
use Rattle.sheets.proofs.Levels.{ranged_down}
use Rattle.sheets.proofs.bearing.from_roof.Goals as goal

pub push-requires : goal.push-requires
push-requires c =
    let t = YieldsList-turn (YieldsList-from_rev_slice c.args.levels.now cc) c.loop-level.yielded _ c.loop-level.yielded_by _ _ c.in-Some.level c.in-Some.is c.next.ensures.steps in
    (omega arith, omega (arith, t.0, length-reverse {A = Level}, simp length-map at (ap length c.loop-level.invariant), c.requires.standing.few))

pub invariant_of-push : goal.invariant_of-push
invariant_of-push c =
    let t = YieldsList-turn (YieldsList-from_rev_slice c.args.levels.now cc) c.loop-level.yielded _ c.loop-level.yielded_by _ _ c.in-Some.level c.in-Some.is c.next.ensures.steps in
    let r = ranged_down c.args.levels.now _ _ c.requires.standing t.0 t.1 in
    record { height = r.height.1; weight = r.weight.1; power = c.height_power.ensures.small }

pub returns : goal.returns
unfolding bearings
returns c =
    let t = YieldsList-end (YieldsList-from_rev_slice c.args.levels.now cc) c.loop-level.yielded _ c.loop-level.yielded_by _ _ c.in-None.is c.next.ensures.steps in
    c.loop-level.invariant ∙ ap (map (bearing (roof_of c.args.levels.now) c.args.e)) t.0

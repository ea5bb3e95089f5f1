-- What the bearers so far have got, and the remainder.
use Rattle.std.proofs.Common.{map}
use Rattle.sharing.proofs.Laws.{Sofar}
use Rattle.sharing.proofs.parts.share_within.Given as goal

abbrev pub invariant-loop-i : goal.invariant-loop-i
invariant-loop-i g l = Sofar l.amount l.total l.rest l.i (map g.B.Bearer.stake l.bearers) l.initial.shares l.shares

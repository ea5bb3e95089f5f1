-- The remainder that goes on keeps the running law true at each turn.
use Rattle.std.proofs.Common.{refl, arith}
use Rattle.sharing.proofs.Laws.{turn, turned}
use Rattle.sharing.proofs.parts.share.Goals as goal

pub overflow_cast-shares : goal.overflow_cast-shares
overflow_cast-shares g c =
    omega (arith, (turn _ _ c.loop-i.invariant c.requires.total c.requires.room c.loop-i.auto.shares c.loop-i-test.true c.index-bearers-i.is c.stake.ensures refl refl).0, c.requires.amount)

pub loop-i-preserved : goal.loop-i-preserved
loop-i-preserved g c =
    (turn _ _ c.loop-i.invariant c.requires.total c.requires.room c.loop-i.auto.shares c.loop-i-test.true c.index-bearers-i.is c.stake.ensures (omega arith) (omega arith)).1

pub returns : goal.returns
returns g c = turned _ _ c.loop-i.invariant c.requires.total c.requires.room c.loop-i.auto.shares c.loop-i-test.false

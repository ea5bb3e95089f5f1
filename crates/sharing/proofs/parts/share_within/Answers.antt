-- The remainder that goes on keeps the running law true at each turn.
use Rattle.std.proofs.Common.{refl, mul-le-mul, arith}
use Rattle.sharing.specs.Sharing.{limit}
use Rattle.sharing.proofs.Laws.{stake_within, turn, turned}
use Rattle.sharing.proofs.parts.share_within.Goals as goal

pub overflow_add-due : goal.overflow_add-due
overflow_add-due g c =
    let within = stake_within g.B.Bearer.stake _ _ _ _ _ c.requires.within c.loop-i-test.true c.index-bearers-i.is c.stake.ensures in
    omega (
      arith,
      mul-le-mul {m₁ = c.stake.result} {n₂ = 1000000} {m₂ = limit} c.requires.amount (omega (arith, g.met.B.Bearer.bounded)),
      c.loop-i.invariant.small,
    )

pub overflow_cast-shares : goal.overflow_cast-shares
overflow_cast-shares g c =
    omega (arith, (turn _ _ c.loop-i.invariant c.requires.total c.requires.room c.loop-i.auto.shares c.loop-i-test.true c.index-bearers-i.is c.stake.ensures refl refl).0, c.requires.amount)

pub loop-i-preserved : goal.loop-i-preserved
loop-i-preserved g c =
    (turn _ _ c.loop-i.invariant c.requires.total c.requires.room c.loop-i.auto.shares c.loop-i-test.true c.index-bearers-i.is c.stake.ensures (omega arith) (omega arith)).1

pub returns : goal.returns
returns g c = turned _ _ c.loop-i.invariant c.requires.total c.requires.room c.loop-i.auto.shares c.loop-i-test.false

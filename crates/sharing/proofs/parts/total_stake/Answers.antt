-- The stakes are those of the list, whose sum is within its bound.
use Rattle.std.proofs.Common.{rules, arith}
use Rattle.std.proofs.lemmas.Iterator.{YieldsList-from_slice, YieldsList-from_map}
use Rattle.std.proofs.lemmas.Iterator.Consumers.{fits_from_yields_list, sum_from_yields_List}
use Rattle.sharing.proofs.Laws.{total_le}
use Rattle.sharing.proofs.parts.total_stake.Goals as goal

pub sum-requires-clause-fits : goal.sum-requires-clause-fits
sum-requires-clause-fits g c =
    let total = total_le g.B.Bearer.stake _ _ c.requires.within g.met.B.Bearer.bounded c.requires.few in
    fits_from_yields_list _ _ (YieldsList-from_map _ g.B.Bearer.stake (YieldsList-from_slice c.args.bearers.now cc) c.map.ensures.closure (λ x r q k. search rules)) (omega (arith, total))

pub returns-clause-most : goal.returns-clause-most
returns-clause-most g c =
    let total = total_le g.B.Bearer.stake _ _ c.requires.within g.met.B.Bearer.bounded c.requires.few in
    omega (arith, total, sum_from_yields_List _ _ c.sum.ensures.ran (YieldsList-from_map _ g.B.Bearer.stake (YieldsList-from_slice c.args.bearers.now cc) c.map.ensures.closure (λ x r q k. search rules)))

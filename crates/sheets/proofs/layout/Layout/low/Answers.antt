-- Some level has a stake, and a product with the amount is within bounds.
use Rattle.std.proofs.Common.{◌*◌, div-le_self, arith}
use Rattle.sheets.proofs.Bounds.{ready_most, amount_le}
use Rattle.sheets.proofs.layout.Layout.low.Goals as goal

pub nonzero_div-result : goal.nonzero_div-result
nonzero_div-result c = ready_most _ _ c.args.self.now.ready

pub returns-clause-most : goal.returns-clause-most
returns-clause-most c =
    omega (
      arith,
      div-le_self (c.args.self.now.portion.amount * c.stake.result) c.args.self.now.portion.most,
      amount_le c.args.self.now.portion.amount c.stake.result c.args.self.now.ready.amount c.stake.ensures.most,
    )

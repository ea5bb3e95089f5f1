-- A low is at most the amount, a high at most two more, and the top force fits beside them.
use Rattle.std.proofs.Common.{ap, arith}
use Rattle.sheets.specs.Shares.{low_share, high_share}
use Rattle.sheets.proofs.Bounds.{low_amount, roof_share_le}
use Rattle.sheets.proofs.layout.Layout.line.Goals as goal

pub overflow_cast-result : goal.overflow_cast-result
overflow_cast-result c =
    let l = ap (low_share c.args.self.now.portion) c.requires.bearer in
    omega (arith, l, low_amount _ _ _ c.args.self.now.ready c.requires.place)

pub overflow_add-result : goal.overflow_add-result
overflow_add-result c =
    let l = ap (low_share c.args.self.now.portion) c.requires.bearer in
    omega (arith, l, low_amount _ _ _ c.args.self.now.ready c.requires.place, roof_share_le c.args.self.now.top c.args.k, c.args.self.now.capped)

pub overflow_cast-result-2 : goal.overflow_cast-result-2
overflow_cast-result-2 c =
    let h = ap (high_share c.args.self.now.portion) c.requires.bearer in
    omega (arith, h, low_amount _ _ _ c.args.self.now.ready c.requires.place, c.requires.certain _ c.requires.place)

pub overflow_add-result-2 : goal.overflow_add-result-2
overflow_add-result-2 c =
    let h = ap (high_share c.args.self.now.portion) c.requires.bearer in
    omega (arith, h, low_amount _ _ _ c.args.self.now.ready c.requires.place, c.requires.certain _ c.requires.place, roof_share_le c.args.self.now.top c.args.k, c.args.self.now.capped)

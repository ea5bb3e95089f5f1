-- The shares, and the top force on the first of them, are the forces.
use Rattle.std.proofs.Common.{arith}
use Rattle.std.proofs.lemmas.List.{length-set}
use Rattle.sheets.proofs.Bounds.{ready_least}
use Rattle.sheets.proofs.Sharing.{force_at}
use Rattle.sheets.proofs.layout.Layout.put_forces.Goals as goal

pub share_within-requires-clause-most : goal.share_within-requires-clause-most
share_within-requires-clause-most c = (ready_least _ _ c.args.self.now.ready).1

pub returns : goal.returns
returns c =
    record {
      long = simp length-set (omega arith);
      each = λ k h. force_at c.args.self.now.portion.amount c.args.self.now.top c.args.self.now.bearers.now _ c.share_within.new.shares k c.share_within.ensures h (omega arith);
    }

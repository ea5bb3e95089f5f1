-- A record over the one at its key, or in a new place; a full table with none at the key has no room.
use Rattle.std.proofs.Common.{◌≡◌, true, arith}
use Rattle.tables.specs.Table.{listed}
use Rattle.tables.proofs.ByKey.{entered_over, entered_new, lacks_found}
use Rattle.tables.proofs.Rising.{each_inserted}
use Rattle.tables.proofs.table.Table.with.Goals as goal

pub returns-in-Ok : goal.returns-in-Ok
returns-in-Ok g c =
    rw c.put_at.ensures (entered_over g.R.Keyed.key (listed c.args.self) c.args.self.rising g.row.N c.in-Ok.i c.args.x (rw c.key.ensures at c.in-Ok.ensures))

pub returns-in-Err : goal.returns-in-Err
returns-in-Err g c =
    rw c.insert_at.ensures (entered_new g.R.Keyed.key (listed c.args.self) c.args.self.rising g.row.N c.in-Err.i c.args.x (rw c.key.ensures at c.in-Err.ensures) (omega arith))

pub invariant_of-result-in-Err : goal.invariant_of-result-in-Err
invariant_of-result-in-Err g c =
    let xs = listed c.args.self in
    let lack = rw c.key.ensures at c.in-Err.ensures in
    rw c.insert_at.ensures (record {
      rising = (entered_new g.R.Keyed.key xs c.args.self.rising g.row.N c.in-Err.i c.args.x lack (omega arith)).becomes.rising;
      fit = each_inserted (λ x. g.R.Keyed.fits x ≡ true) xs c.in-Err.i c.args.x lack.within c.args.self.fit c.requires;
    })

pub returns-in-Err-2 : goal.returns-in-Err-2
returns-in-Err-2 g c = (lacks_found g.R.Keyed.key (listed c.args.self) _ c.in-Err.i (rw c.key.ensures at c.in-Err.ensures), omega arith)

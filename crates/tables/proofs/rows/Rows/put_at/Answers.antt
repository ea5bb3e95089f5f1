-- Putting a record over another and taking the first records may change places.
use Rattle.tables.proofs.Lists.{take_put}
use Rattle.tables.proofs.rows.Rows.put_at.Goals as goal

pub returns : goal.returns
returns g c = take_put c.args.self.cells c.args.self.count c.args.i c.args.x

-- The closure gives a record's key, and the keys rise.
use Rattle.std.proofs.Common.{rules}
use Rattle.std.proofs.lemmas.List.Sorted.{answers_always}
use Rattle.tables.specs.Table.{listed}
use Rattle.tables.proofs.Sought.{sought}
use Rattle.tables.proofs.table.Table.seek.Goals as goal

pub returns : goal.returns
returns g c =
    let facts = c.binary_search_by_key.ensures in
    let by_key = facts.position g.R.Keyed.key (answers_always _ _ _ (λ f a r h called. search rules)) in
    sought g.R.Keyed.key (listed c.args.self.now) c.args.self.now.rising c.args.k c.binary_search_by_key.result (rw c.as_slice.ensures at facts.bound) (rw c.as_slice.ensures at by_key)

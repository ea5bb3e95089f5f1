-- What stands at the place that `seek` answers is what the look-up finds.
use Rattle.std.proofs.Common.{rules, sym, ◌∙◌, arith}
use Rattle.tables.specs.Table.{listed}
use Rattle.tables.proofs.ByKey.{placed, read_at, none_at}
use Rattle.tables.proofs.table.Table.find.Goals as goal

pub returns : goal.returns
returns g c =
    let xs = listed c.args.self.now in
    let has = placed g.R.Keyed.key xs _ c.seek.result _ c.seek.ensures (sym c.ok.ensures.value ∙ c.in_ok-i.was) in
    let x = c.at.result in
    read_at g.R.Keyed.key xs _ c.args.k _ x c.args.self.now.rising has (c.at.ensures x) (omega arith)

pub returns-in_err-i : goal.returns-in_err-i
returns-in_err-i g c =
    let xs = listed c.args.self.now in
    let none = placed g.R.Keyed.key xs _ c.seek.result _ c.seek.ensures (sym c.ok.ensures.value ∙ c.in_err-i.was) in
    let same = none_at g.R.Keyed.key xs _ c.args.k none (omega arith) in
    search (rules, same)

-- The record at the key is taken out, or none was there.
use Rattle.std.proofs.Common.{rules, ◌≡◌, true, sym, ◌∙◌}
use Rattle.tables.specs.Table.{listed}
use Rattle.tables.proofs.ByKey.{struck_out, placed}
use Rattle.tables.proofs.Rising.{rising_removed, each_removed}
use Rattle.tables.proofs.table.Table.without.Goals as goal

pub returns : goal.returns
returns g c =
    let xs = listed c.args.self in
    let has = placed g.R.Keyed.key xs c.args.k c.seek.result _ c.seek.ensures (sym c.ok.ensures.value ∙ c.in_ok-i.was) in
    rw c.remove_at.ensures (struck_out g.R.Keyed.key xs c.args.self.rising c.args.k c.in_ok-i.i has)

pub invariant_of-result : goal.invariant_of-result
invariant_of-result g c =
    let xs = listed c.args.self in
    let has = placed g.R.Keyed.key xs c.args.k c.seek.result _ c.seek.ensures (sym c.ok.ensures.value ∙ c.in_ok-i.was) in
    rw c.remove_at.ensures (record {
      rising = rising_removed g.R.Keyed.key xs c.in_ok-i.i has.within c.args.self.rising;
      fit = each_removed (λ x. g.R.Keyed.fits x ≡ true) xs c.in_ok-i.i has.within c.args.self.fit;
    })

pub returns-in_err-i : goal.returns-in_err-i
returns-in_err-i g c =
    let none = placed g.R.Keyed.key (listed c.args.self) c.args.k c.seek.result _ c.seek.ensures (sym c.ok.ensures.value ∙ c.in_err-i.was) in
    search (rules, none)

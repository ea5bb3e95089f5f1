-- What is needed and not present has a lowest digit, unless it is nothing.
use Rattle.std.proofs.Common.{◌-◌, Some, None, arith, rules}
use lib.Bits.{and_lt}
use Rattle.settings.proofs.Absent.{all_present, least}
use Rattle.settings.proofs.First.{lowest_is}
use Rattle.settings.proofs.record.Settings.lowest_absent.Goals as goal

pub returns-then-missing-eq0 : goal.returns-then-missing-eq0
returns-then-missing-eq0 c =
    let s = c.args.self.now in
    let l = all_present s c.args.needs c.present.result (search rules) c.present.ensures (search rules) in
    record { value = lowest_is s c.args.needs None l; lowest = l }

pub returns-else-missing-eq0 : goal.returns-else-missing-eq0
returns-else-missing-eq0 c =
    let s = c.args.self.now in
    let l =
    least s c.args.needs c.present.result (search rules) c.present.ensures (omega arith)
    (and_lt 16 c.args.needs (65535 - c.present.result) (search rules) (omega arith)) in
    record { value = lowest_is s c.args.needs (Some _) l; lowest = l }

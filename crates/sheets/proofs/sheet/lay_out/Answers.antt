-- Where no level was found, none is uncertain.
use Rattle.std.proofs.Common.{sym}
use Rattle.sheets.proofs.Whole.{none_uncertain}
use Rattle.sheets.proofs.sheet.lay_out.Goals as goal

pub write_lines-moment-requires-clause-certain : goal.write_lines-moment-requires-clause-certain
write_lines-moment-requires-clause-certain c = none_uncertain _ _ (sym c.in_default.ensures)

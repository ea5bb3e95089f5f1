-- The digits, and then the mark.
use Rattle.std.proofs.Common.{◌∙◌}
use Rattle.text_bytes.proofs.Writing.{writes_more}
use Rattle.text_bytes.proofs.put.Writer.put_number.Goals as goal

pub returns-clause-writes : goal.returns-clause-writes
returns-clause-writes g c =
    let digits = c.as_bytes-digits.ensures.value ∙ c.format.ensures.text in
    rw (← digits) (writes_more _ _ _ _ _ c.put_bytes.ensures c.put_bytes-2.ensures)

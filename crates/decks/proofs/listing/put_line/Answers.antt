-- Four fields, one after another.
use Rattle.text_bytes.specs.Wrote.{field}
use Rattle.text_bytes.proofs.Writing.{writes_more}
use Rattle.decks.specs.Listing.{line_bytes}
use Rattle.decks.proofs.listing.put_line.Goals as goal

pub returns-clause-writes : goal.returns-clause-writes
unfolding line_bytes field
returns-clause-writes c =
    writes_more _ _ _ _ _ c.put_number.ensures.writes
    (writes_more _ _ _ _ _ c.put_number-2.ensures.writes
    (writes_more _ _ _ _ _ c.put_number-3.ensures.writes c.put_number-4.ensures.writes))

-- The word and a 0, and then two fields.
use Rattle.text_bytes.specs.Wrote.{field}
use Rattle.text_bytes.proofs.Writing.{writes_more}
use Rattle.decks.specs.Listing.{base_bytes}
use Rattle.decks.proofs.listing.put_base.Goals as goal

pub returns : goal.returns
unfolding base_bytes field
returns c =
    writes_more _ _ _ _ _ c.put_bytes.ensures
    (writes_more _ _ _ _ _ c.put_number.ensures.writes c.put_number-2.ensures.writes)

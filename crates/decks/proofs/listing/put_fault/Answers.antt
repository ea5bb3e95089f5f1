-- The word, and then four fields.
use Rattle.std.proofs.Common.{rules}
use Rattle.text_bytes.specs.Wrote.{field}
use Rattle.text_bytes.proofs.Writing.{writes_more, written}
use Rattle.decks.specs.Listing.{fault_bytes}
use Rattle.decks.proofs.listing.put_fault.Goals as goal

pub returns-clause-puts : goal.returns-clause-puts
unfolding fault_bytes field
returns-clause-puts c =
    let cause = rw c.number.ensures.value at c.put_number.ensures.writes in
    let layer = rw c.number-2.ensures.value at c.put_number-3.ensures.writes in
    let all =
    writes_more _ _ _ _ _ c.put_bytes.ensures
    (writes_more _ _ _ _ _ cause
    (writes_more _ _ _ _ _ c.put_number-2.ensures.writes
    (writes_more _ _ _ _ _ layer c.put_number-4.ensures.writes))) in
    written _ _ _ _ all (search rules)

-- The first line, the levels' lines and the base's line.
use Rattle.std.proofs.Common.{rules}
use Rattle.text_bytes.proofs.Writing.{writes_more, written}
use Rattle.decks.specs.Listing.{listing}
use Rattle.decks.proofs.listing.put_listing.Goals as goal

pub returns : goal.returns
unfolding listing
returns c =
    let all = writes_more _ _ _ _ _ c.put_bytes.ensures (writes_more _ _ _ _ _ c.put_lines.ensures.writes c.put_base.ensures) in
    written _ _ _ _ all (search rules)

-- The lines so far are written.
use Rattle.std.proofs.Common.{◌+◌, ◌*◌, ◌≤◌, take}
use Rattle.text_bytes.specs.Writing.{Writes}
use Rattle.decks.specs.Listing.{lines_bytes}
use Rattle.decks.proofs.listing.put_lines.Given as goal

abbrev pub invariant-loop-line : goal.invariant-loop-line
invariant-loop-line l = record {
  writes : Writes l.initial.writer (lines_bytes (take l.line-index l.lines)) l.writer;
  bound : l.writer.at ≤ l.initial.writer.at + 54 * l.line-index;
}

-- One line more, at each turn.
use Rattle.std.proofs.Common.{arith}
use Rattle.text_bytes.proofs.Writing.{writes_more, writes_none}
use Rattle.sheets.specs.Sheet.{no_line}
use Rattle.decks.proofs.Lines.{lines_none, lines_more}
use Rattle.decks.proofs.listing.put_lines.Goals as goal

pub loop-line-init : goal.loop-line-init
loop-line-init c = record { writes = rw lines_none (writes_none c.args.writer.now (omega arith)); bound = omega arith }

pub loop-line-preserved : goal.loop-line-preserved
loop-line-preserved c =
    let ls = c.args.lines.now in
    let i = c.loop-line.line-index in
    record {
      writes = rw (lines_more ls i no_line c.loop-line-test.true) (writes_more _ _ _ _ _ c.loop-line.invariant.writes c.put_line.ensures.writes);
      bound = omega arith;
    }

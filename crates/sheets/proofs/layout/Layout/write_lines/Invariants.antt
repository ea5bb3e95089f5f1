-- The shear and the moment at the level above, and the lines written so far.
use Rattle.std.proofs.Common.{length}
use Rattle.sheets.specs.Shares.{force}
use Rattle.sheets.proofs.Writing.{Written}
use Rattle.sheets.proofs.layout.Layout.write_lines.Given as goal

abbrev pub invariant-loop-k : goal.invariant-loop-k
invariant-loop-k l =
    let s = l.self in
    let d = l.descent in
    Written (force s.portion.amount s.top s.bearers.now) s.top s.portion s.bearers.now l.initial.lines l.lines (length l.yielded) d.height d.shear d.moment

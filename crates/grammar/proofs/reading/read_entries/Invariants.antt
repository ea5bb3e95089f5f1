-- What the lines that are left come to is what the deck comes to.
use Rattle.std.proofs.Common.{ℕ, ◌+◌, ◌≤◌, List, length, Result}
use Rattle.grammar.specs.declared.entry.Entry.{Entry}
use Rattle.grammar.specs.declared.entry.Refusal.{Refusal}
use Rattle.grammar.specs.Reading.{Handed}
use Rattle.grammar.proofs.reading.read_entries.Given as goal

abbrev pub invariant-lines : goal.invariant-lines
invariant-lines g l =
    (l.line + length l.rest ≤ 32770)
    × ((es : List Entry) (r : Result ℕ Refusal) (t : g.row.T.Denot) → Handed g.T.Takes.takes l.line l.rest l.taker es r t → (fs : List Entry) × Handed g.T.Takes.takes 2 l.initial.deck l.initial.taker fs r t)

abbrev pub decreases-lines : goal.decreases-lines
decreases-lines g l = length l.rest

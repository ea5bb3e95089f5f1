-- The lines after the first are fewer bytes than the deck, and the edition that stands in it is what they are listed under.
use Rattle.std.proofs.Common.{rules, sym, arith}
use Rattle.grammar.specs.Lines.{edition_in}
use Rattle.grammar.proofs.Shorter.{line_shorter}
use Rattle.decks.proofs.Outcome.{mapped_ok, mapped_err}
use Rattle.decks.proofs.answer.list.Goals as goal

pub list_under-requires : goal.list_under-requires
list_under-requires c =
    let m = mapped_ok _ c.read_edition.result c.map_err.result _ c.map_err.ensures.cases c.in_ok-published.was in
    let e = rw (sym m) at c.read_edition.ensures in
    let l = line_shorter (λ _ line. edition_in line) _ c.args.deck.now c.in_ok-published.rest.now e in
    omega (arith, l, c.if-deck-gt-LONGEST.false)

pub returns : goal.returns
returns c =
    let m = mapped_ok _ c.read_edition.result c.map_err.result _ c.map_err.ensures.cases c.in_ok-published.was in
    let e = rw (sym m) at c.read_edition.ensures in
    search (rules, e)

pub returns-in_err-published : goal.returns-in_err-published
returns-in_err-published c =
    let m = mapped_err _ c.read_edition.result c.map_err.result _ c.map_err.ensures.cases c.in_err-published.was in
    let e = rw (sym m.1) at c.read_edition.ensures in
    search (rules, e, m.2)

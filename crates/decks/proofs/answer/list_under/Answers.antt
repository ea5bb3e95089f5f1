-- The sheet of the job that the entries lead to.
use Rattle.std.proofs.Common.{rules, ◌≡◌, ℕ, ◌-◌, ◌∙◌, take, replicate, refl, subst, arith}
use Rattle.std.proofs.lemmas.List.{length-replicate}
use Rattle.std.proofs.lemmas.Result.{err_from_is_err_and}
use Rattle.text_bytes.specs.Wrote.{Puts}
use Rattle.grammar.specs.Reading.{on}
use Rattle.decks.specs.Listing.{listing}
use Rattle.decks.proofs.Outcome.{mapped_ok, mapped_err, under_refused, under_fault, under_drawn}
use Rattle.decks.proofs.answer.list_under.Goals as goal

pub returns-in_err-line : goal.returns-in_err-line
returns-in_err-line g c =
    let p = err_from_is_err_and c.from_residual.result c.from_residual.ensures.1 in
    let h = c.in_err-line.ensures in
    rw (p.1, p.2) (
      under_refused g.E.Edition.NEEDS g.E.Edition.meaning c.args.edition c.args.deck.now (record { job = c.new.result }) c.read_entries.new.taker h.0
          (record { edition = c.new.ensures.edition; settings = c.new.ensures.settings; levels = c.new.ensures.levels; walls = c.new.ensures.walls }) c.in_err-line.field-0.0 h.1,
      refl,
    )

pub returns-in_err-totals : goal.returns-in_err-totals
returns-in_err-totals g c =
    let p = err_from_is_err_and c.from_residual-in_err-totals.result c.from_residual-in_err-totals.ensures.1 in
    let m = mapped_err _ c.sheet.result c.map_err.result c.in_err-totals.field-0.0 c.map_err.ensures.cases c.in_err-totals.was in
    let q : c.in_err-totals.field-0.0 ≡ on c.in_ok-line.line m.0 = search rules in
    let h = c.in_ok-line.ensures in
    rw (p.1, p.2, q) (
      under_fault g.E.Edition.NEEDS g.E.Edition.meaning c.args.edition c.args.deck.now (record { job = c.new.result }) c.read_entries.new.taker h.0
          (record { edition = c.new.ensures.edition; settings = c.new.ensures.settings; levels = c.new.ensures.levels; walls = c.new.ensures.walls }) c.in_ok-line.line h.1 m.0 (m.1 ∙ c.sheet.ensures.answer),
      refl,
    )

pub returns : goal.returns
returns g c =
    let h = c.in_ok-line.ensures in
    let m = mapped_ok _ c.sheet.result c.map_err.result c.in_ok-totals.totals c.map_err.ensures.cases c.in_ok-totals.was in
    let n = c.level_count-count.result in
    let z : n - 0 ≡ n = omega arith in (
      (c.in_ok-totals.totals, take n c.sheet.new.lines),
      under_drawn g.E.Edition.NEEDS g.E.Edition.meaning c.args.edition c.args.deck.now (record { job = c.new.result }) c.read_entries.new.taker h.0
          (record { edition = c.new.ensures.edition; settings = c.new.ensures.settings; levels = c.new.ensures.levels; walls = c.new.ensures.walls }) c.in_ok-line.line h.1
          c.in_ok-totals.totals n (replicate 64 c.default-lines.result) c.sheet.new.lines (length-replicate 64 c.default-lines.result) c.level_count-count.ensures.count (m ∙ c.sheet.ensures.answer) c.sheet.ensures.lines,
      subst (λ (m : ℕ). Puts c.args.out.now 0 (listing c.in_ok-totals.totals (take m c.sheet.new.lines)) c.put_listing.new.out c.put_listing.result) z c.put_listing.ensures,
    )

-- Each turn hands over one entry more and leaves fewer bytes.
use Rattle.std.proofs.Common.{◌≡◌, [], ◌∷◌, Some, None, Ok, Err, refl, inl, inr, ⊎_elim, arith, rules}
use Rattle.std.proofs.lemmas.Result.{err_from_is_err_and}
use Rattle.grammar.specs.Lines.{entry_in}
use Rattle.grammar.specs.Reading.{on}
use Rattle.grammar.proofs.Shorter.{line_shorter}
use Rattle.grammar.proofs.Stepping.{went, refused}
use Rattle.grammar.proofs.reading.read_entries.Goals as goal

pub returns : goal.returns
returns g c =
    let s = went g.T.Takes.takes c.lines.rest.now c.lines.taker c.step.new.taker _ c.step.result c.map_err.result c.map_err.ensures.cases c.step.ensures c.in_ok-after.field-0 None c.in_ok-after.was c.in_default.is in
    c.lines.invariant.1 [] (Ok c.lines.line) c.step.new.taker (inl (s.0, refl, s.1))

pub returns-in_err-after : goal.returns-in_err-after
returns-in_err-after g c =
    let k = c.lines.line in
    let s = refused g.T.Takes.takes c.lines.rest.now c.lines.taker c.step.new.taker _ c.step.result c.map_err.result c.map_err.ensures.cases c.step.ensures c.in_err-after.field-0.0 c.in_err-after.was in
    let f = s.0 in
    let q = s.1 in
    let x : c.in_err-after.field-0.0 ≡ on k f = search (rules, q) in
    let p = err_from_is_err_and c.from_residual.result c.from_residual.ensures.1 in
    rw (p.1, p.2, x) (
    ⊎_elim
    (λ wrong. c.lines.invariant.1 [] (Err (on k f)) c.step.new.taker (inr (f, wrong.0, refl, wrong.1)))
    (λ entry. c.lines.invariant.1 (entry.0 ∷ []) (Err (on k f)) c.step.new.taker (entry.1, entry.2, inl (f, entry.3, refl, refl)))
    s.2
    )

pub lines-smaller : goal.lines-smaller
lines-smaller g c =
    let s = went g.T.Takes.takes c.lines.rest.now c.lines.taker c.step.new.taker _ c.step.result c.map_err.result c.map_err.ensures.cases c.step.ensures c.in_ok-after.field-0 (Some c.in-Some.after) c.in_ok-after.was c.in-Some.is in
    line_shorter entry_in (Some s.0) c.lines.rest.now c.in-Some.after.now s.1

pub lines-preserved : goal.lines-preserved
lines-preserved g c =
    let s = went g.T.Takes.takes c.lines.rest.now c.lines.taker c.step.new.taker _ c.step.result c.map_err.result c.map_err.ensures.cases c.step.ensures c.in_ok-after.field-0 (Some c.in-Some.after) c.in_ok-after.was c.in-Some.is in
    let l = line_shorter entry_in (Some s.0) c.lines.rest.now c.in-Some.after.now s.1 in
    (omega (arith, c.lines.invariant.0), λ es r t h. c.lines.invariant.1 (s.0 ∷ es) r t (c.in-Some.after.now, s.1, inr (c.step.new.taker, s.2, h)))

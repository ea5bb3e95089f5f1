-- What a deck's lines come to, from what the calls on its job answered.
use Rattle.std.proofs.Common.{◌≡◌, ℕ, List, ◌++◌, length, take, drop, Some, None, Ok, Err, Option, Result, MatchResult, sym, refl, ap, ◌∙◌, subst, arith}
use Rattle.std.proofs.lemmas.List.{take_at}
use Rattle.std.proofs.lemmas.Result.{err_from_is_err_and}
use Rattle.std.specs.Result.{IsErrAnd}
use Rattle.editions.specs.declared.edition.Answers.{Answers}
use Rattle.faults.specs.declared.fault.Fault.{Fault}
use Rattle.grammar.specs.declared.entry.Entry.{Entry}
use Rattle.grammar.specs.declared.entry.Refusal.{Refusal}
use Rattle.grammar.specs.Reading.{on, Handed}
use Rattle.jobs.specs.declared.building.Building.{Building}
use Rattle.jobs.specs.Questions.{answers_of, bearers, sheet_refusal, sheet_of, list_after}
use Rattle.tables.specs.Table.{listed}
use Rattle.settings.specs.declared.record.Settings.{Settings}
use Rattle.sheets.specs.declared.line.Line.{Line}
use Rattle.sheets.specs.declared.line.Totals.{Totals}
use Rattle.sheets.specs.Sheet.{answered, written, lines}
use Rattle.sheets.proofs.Levels.{length_bearings}
use Rattle.sheets.proofs.Whole.{length_lines}
use Rattle.decks.specs.declared.desk.Desk.{Desk}
use Rattle.decks.specs.Answer.{Drawn, sheet_of as drawing, drawn, on_line, Under}
use Rattle.decks.specs.Desk.{Blank, Enters}

-- a refusal is the answer, and no refusal gives it
answered_err : {X : Type 0} (o : Option Fault) (x : X) (f : Fault) → Err f ≡ answered o x → o ≡ Some f
answered_err None x f e = let z : ◌≡◌ {A = ℕ} 0 1 = cc in absurd (omega arith)
answered_err (Some g) x f e = cc

answered_ok : {X : Type 0} (o : Option Fault) (x y : X) → Ok y ≡ answered o x → (o ≡ None) × (y ≡ x)
answered_ok None x y e = (refl, cc)
answered_ok (Some g) x y e = let z : ◌≡◌ {A = ℕ} 0 1 = cc in absurd (omega arith)

-- what a result was whose error was turned into another
pub mapped_ok : {T E F : Type 0} (Q : E → F → Type 0) (r : Result T E) (s : Result T F) (t : T) → MatchResult r (λ x. s ≡ Ok x) (λ e. IsErrAnd s (Q e)) → s ≡ Ok t → Ok t ≡ r
mapped_ok Q (Ok x) s t m e = cc
mapped_ok Q (Err d) s t m e = let p = err_from_is_err_and s m in cc

pub mapped_err : {T E F : Type 0} (Q : E → F → Type 0) (r : Result T E) (s : Result T F) (f : F) → MatchResult r (λ x. s ≡ Ok x) (λ e. IsErrAnd s (Q e)) → s ≡ Err f → (e : E) × (Err e ≡ r) × Q e f
mapped_err Q (Ok x) s f m e = absurd (let z : ◌≡◌ {A = ℕ} 0 1 = cc in omega arith)
mapped_err Q (Err d) s f m e = let p = err_from_is_err_and s m in (d, refl, subst (Q d) (let same : p.0 ≡ f = cc in same) p.2)

module _ (needs : ℕ) (meaning : Settings → ℕ → ℕ → Answers) (b : Building) where
  drawn_err : (f : Fault) → Err f ≡ sheet_of needs meaning b 64 → drawn needs meaning b ≡ Err f
  drawn_err f e = ap (λ (o : Option Fault). answered o (drawing needs meaning b)) (answered_err (sheet_refusal needs meaning b 64) _ f e)

  -- the first lines of the list are the sheet's
  first_lines : (count : ℕ) (old new : List Line) → count ≡ length (listed b.levels) → sheet_refusal needs meaning b (length old) ≡ None → new ≡ list_after needs meaning b old →
      take count new ≡ lines (answers_of meaning b) (bearers needs meaning b)
  first_lines count old new n none is =
      let a = answers_of meaning b in
      let bs = bearers needs meaning b in
      ap (take count) (is ∙ ap (λ (o : Option Fault). written o (lines a bs ++ drop (length bs) old) old) none)
      ∙ take_at (lines a bs) (drop (length bs) old) count (length_lines a bs ∙ length_bearings a.exponent (listed b.levels) ∙ sym n)

  drawn_ok : (t : Totals) (count : ℕ) (old new : List Line) → length old ≡ 64 → count ≡ length (listed b.levels) → Ok t ≡ sheet_of needs meaning b (length old) → new ≡ list_after needs meaning b old →
      drawn needs meaning b ≡ Ok (t, take count new)
  drawn_ok t count old new long n e is =
      let r = answered_ok (sheet_refusal needs meaning b (length old)) _ t e in
      let none : sheet_refusal needs meaning b 64 ≡ None = ap (sheet_refusal needs meaning b) (sym long) ∙ r.0 in
      let ls = first_lines count old new n r.0 is in
      let d : Drawn = (t, take count new) in
      let same : drawing needs meaning b ≡ d = cc in
      ap (λ (o : Option Fault). answered o (drawing needs meaning b)) none ∙ ap Ok same

module _ {E : Type 0} (needs : ℕ) (meaning : E → Settings → ℕ → ℕ → Answers) (e : E) (bs : List ℕ) (s t : Desk E) (es : List Entry) (blank : Blank e s) where
  pub under_refused : (x : Refusal) → Handed Enters 2 bs s es (Err x) t → Under needs meaning e bs (Err x)
  under_refused x h = record { opened = s; blank = blank; entries = es; read = Err x; closed = t; handed = h; outcome = refl }

  module _ (k : ℕ) (h : Handed Enters 2 bs s es (Ok k) t) where
    pub under_fault : (f : Fault) → Err f ≡ sheet_of needs (meaning t.job.edition) t.job.building 64 → Under needs meaning e bs (Err (on k f))
    under_fault f is = record {
      opened = s;
      blank = blank;
      entries = es;
      read = Ok k;
      closed = t;
      handed = h;
      outcome = sym (ap (on_line k) (drawn_err needs (meaning t.job.edition) t.job.building f is));
    }

    pub under_drawn : (tot : Totals) (count : ℕ) (old new : List Line) → length old ≡ 64 → count ≡ length (listed t.job.building.levels) →
        Ok tot ≡ sheet_of needs (meaning t.job.edition) t.job.building (length old) → new ≡ list_after needs (meaning t.job.edition) t.job.building old →
        Under needs meaning e bs (Ok (tot, take count new))
    under_drawn tot count old new long n is after = record {
      opened = s;
      blank = blank;
      entries = es;
      read = Ok k;
      closed = t;
      handed = h;
      outcome = sym (ap (on_line k) (drawn_ok needs (meaning t.job.edition) t.job.building tot count old new long n is after));
    }

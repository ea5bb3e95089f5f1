-- What a deck comes to: the totals and lines of its job's sheet, or a fault with its line; and the bytes that say so.
use Rattle.std.specs.Prelude.{◌≡◌, ℕ, ◌<◌, ◌≤◌, List, length, Ok, Err, Result}
use Rattle.text_bytes.specs.Wrote.{Puts}
use Rattle.editions.specs.declared.edition.Answers.{Answers}
use Rattle.editions.specs.declared.nehrp2003.Nehrp2003.{Nehrp2003}
use Rattle.editions.specs.Nehrp2003 as nehrp
use Rattle.faults.specs.declared.fault.Cause.TheVariants.{ListShort}
use Rattle.faults.specs.declared.fault.Fault.{Fault}
use Rattle.faults.specs.declared.fault.Layer.TheVariants.{Deck}
use Rattle.faults.specs.Numbers.{fault}
use Rattle.grammar.specs.declared.entry.Entry.{Entry}
use Rattle.grammar.specs.declared.entry.Published.{Published}
use Rattle.grammar.specs.declared.entry.Published.TheVariants as published
use Rattle.grammar.specs.declared.entry.Refusal.{Refusal}
use Rattle.grammar.specs.Lines.{malformed, edition_line}
use Rattle.grammar.specs.Reading.{on, Handed}
use Rattle.jobs.specs.declared.building.Building.{Building}
use Rattle.jobs.specs.Questions.{answers_of, bearers, sheet_refusal}
use Rattle.settings.specs.declared.record.Settings.{Settings}
use Rattle.sheets.specs.declared.line.Line.{Line}
use Rattle.sheets.specs.declared.line.Totals.{Totals}
use Rattle.sheets.specs.Sheet.{answered, totals, lines}
use Rattle.decks.specs.declared.reply.Reply.{Reply}
use Rattle.decks.specs.declared.desk.Desk.{Desk}
use Rattle.decks.specs.Desk.{Blank, Enters}
use Rattle.decks.specs.Listing.{listing, fault_bytes}

-- a sheet's totals and lines
abbrev pub Drawn : Type 0
Drawn = Totals × List Line

-- a building's sheet, if there is one
abbrev pub sheet_of : ℕ → (Settings → ℕ → ℕ → Answers) → Building → Drawn
sheet_of needs meaning b = (totals (answers_of meaning b) (bearers needs meaning b), lines (answers_of meaning b) (bearers needs meaning b))

-- the sheet, or why there is none; a list of 64 lines is never too short
abbrev pub drawn : ℕ → (Settings → ℕ → ℕ → Answers) → Building → Result Drawn Fault
drawn needs meaning b = answered (sheet_refusal needs meaning b 64) (sheet_of needs meaning b)

-- a fault that comes up on line k
abbrev pub on_line : ℕ → Result Drawn Fault → Result Drawn Refusal
on_line k (Ok d) = Ok d
on_line k (Err f) = Err (on k f)

-- after the entries: the refusal that ended them, or the sheet, which is asked for on line k
abbrev pub concluded : ℕ → (Settings → ℕ → ℕ → Answers) → Building → Result ℕ Refusal → Result Drawn Refusal
concluded needs meaning b (Err x) = Err x
concluded needs meaning b (Ok k) = on_line k (drawn needs meaning b)

-- what the lines bs after the edition e come to: a new job is given their entries one by one
pub record Under {E : Type 0} (needs : ℕ) (meaning : E → Settings → ℕ → ℕ → Answers) (e : E) (bs : List ℕ) (o : Result Drawn Refusal) : Type 0 where
  pub opened : Desk E
  pub blank : Blank e opened
  pub entries : List Entry
  pub read : Result ℕ Refusal
  pub closed : Desk E
  pub handed : Handed Enters 2 bs opened entries read closed
  pub outcome : o ≡ concluded needs (meaning closed.job.edition) closed.job.building read

-- by what the first line says
abbrev pub ByEdition : Result (Published × List ℕ) Fault → Result Drawn Refusal → Type 0
ByEdition (Err f) o = o ≡ Err (on 1 f)
ByEdition (Ok (published.Nehrp2003, rest)) o = (e : Nehrp2003) × Under nehrp.needed (λ _. nehrp.meaning) e rest o

-- what the deck bs comes to
pub record Comes (bs : List ℕ) (o : Result Drawn Refusal) : Type 0 where
  pub long : 32768 < length bs → o ≡ Err (on 0 malformed)
  pub read : length bs ≤ 32768 → ByEdition (edition_line bs) o

-- the bytes that say it
abbrev pub bytes_of : Result Drawn Refusal → List ℕ
bytes_of (Ok d) = listing d.0 d.1
bytes_of (Err x) = fault_bytes x

abbrev pub outcome_of : Result Drawn Refusal → Result (Unit {0}) Refusal
outcome_of (Ok d) = Ok tt
outcome_of (Err x) = Err x

-- what was written of an outcome that P says of: a listing, or nothing where there is a refusal
abbrev pub Listed : (Result Drawn Refusal → Type 0) → (old new : List ℕ) → Result ℕ Refusal → Type 0
Listed P old new (Ok n) = (d : Drawn) × P (Ok d) × Puts old 0 (listing d.0 d.1) new n
Listed P old new (Err x) = P (Err x) × (new ≡ old)

-- the deck bs came to o, and the buffer `old` was written over with the bytes that say so
pub record Told (bs old new : List ℕ) (r : Reply) (o : Result Drawn Refusal) : Type 0 where
  pub comes : Comes bs o
  pub bytes : Puts old 0 (bytes_of o) new r.written
  pub outcome : r.outcome ≡ outcome_of o

-- the answer: a short buffer is refused and left as it is; else the deck's outcome is told
pub record Answered (bs old new : List ℕ) (r : Reply) : Type 0 where
  pub short : length old < 4096 → (r ≡ record { written = 0; outcome = Err (on 0 (fault Deck ListShort 4096)) }) × (new ≡ old)
  pub told : 4096 ≤ length old → (o : Result Drawn Refusal) × Told bs old new r o

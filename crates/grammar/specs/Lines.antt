-- What one line says: the edition, an entry or the end, or a fault.
use Rattle.std.specs.Prelude.{◌≡◌, ℕ, Bool, true, false, cond, ◌&&◌, List, [], length, Some, None, Ok, Err, Option, Result, ◌==◌, slice_index_or}
use Rattle.std.specs.Borrow.{Bor}
use Rattle.std.specs.Option.{ok_or}
use Rattle.text_bytes.specs.declared.fields.Fields.{Fields}
use Rattle.text_bytes.specs.Numbers.{number_in}
use Rattle.text_bytes.specs.Pieces.{has, before, after, others}
use Rattle.faults.specs.declared.fault.Cause.TheVariants.{LineMalformed, FieldMalformed}
use Rattle.faults.specs.declared.fault.Fault.{Fault}
use Rattle.faults.specs.declared.fault.Layer.TheVariants.{Deck}
use Rattle.faults.specs.Numbers.{fault}
use Rattle.grammar.specs.declared.entry.Entry.{Entry}
use Rattle.grammar.specs.declared.entry.Published.{Published}
use Rattle.grammar.specs.declared.entry.Published.TheVariants.{Nehrp2003}
use Rattle.grammar.specs.declared.word.Word.{Word}
use Rattle.grammar.specs.declared.word.Word.TheVariants.{Edition, Set, Level, Drop, Sheet}
use Rattle.grammar.specs.Words.{word_of, arity}

-- a wrong word, position, ending or number of fields; and a field that is no number or no edition
abbrev pub malformed : Fault
malformed = fault Deck LineMalformed 0

abbrev pub misread : ℕ → Fault
misread k = fault Deck FieldMalformed k

abbrev pub then : {X Y : Type 0} → Result X Fault → (X → Result Y Fault) → Result Y Fault
then (Ok x) f = f x
then (Err e) f = Err e

-- the number in the field k, the word being field 1
abbrev pub number_at : ℕ → List ℕ → Result ℕ Fault
number_at k d = ok_or (number_in d) (misread k)

abbrev pub edition_at : ℕ → List ℕ → Result Published Fault
edition_at k d = then (number_at k d) (λ n. cond (n == 1) (Ok Nehrp2003) (Err (misread k)))

-- the word, if there is one and it takes n fields
abbrev pub fitting : Option Word → ℕ → Result Word Fault
fitting None n = Err malformed
fitting (Some w) n = cond (n == arity w) (Ok w) (Err malformed)

-- the word of a line, without its ending, that has as many fields as the word takes
abbrev pub word_in : List ℕ → Result Word Fault
word_in line = fitting (word_of (before 32 line)) (length (others 32 line))

-- what a line is split into
pub record Split (line : List ℕ) (fields : Fields) : Type 0 where
  pub word : fields.word.now ≡ before 32 line
  pub count : fields.count ≡ length (others 32 line)
  pub first : fields.first.now ≡ slice_index_or (others 32 line) 0 []
  pub second : fields.second.now ≡ slice_index_or (others 32 line) 1 []
  pub third : fields.third.now ≡ slice_index_or (others 32 line) 2 []

-- the edition that the first line names, without its ending
abbrev pub named_by : Option Word → List (List ℕ) → Result Published Fault
named_by None ds = Err malformed
named_by (Some Edition) ds = cond (length ds == 1) (edition_at 2 (slice_index_or ds 0 [])) (Err malformed)
named_by (Some Set) ds = Err malformed
named_by (Some Level) ds = Err malformed
named_by (Some Drop) ds = Err malformed
named_by (Some Sheet) ds = Err malformed

abbrev pub edition_in : List ℕ → Result Published Fault
edition_in line = named_by (word_of (before 32 line)) (others 32 line)

-- where a word may stand after the first line: the edition nowhere, the sheet on the last line
abbrev pub placed : Bool → Word → Bool
placed last Edition = false
placed last Set = true
placed last Level = true
placed last Drop = true
placed last Sheet = last

-- the word's entry with the numbers in the fields after it, and none for the sheet
abbrev pub entry_from : Word → List ℕ → List ℕ → List ℕ → Result (Option Entry) Fault
entry_from Edition x y z = Ok None
entry_from Set x y z = then (number_at 2 x) (λ a. then (number_at 3 y) (λ b. Ok (Some (Entry.Set a b))))
entry_from Level x y z = then (number_at 2 x) (λ a. then (number_at 3 y) (λ b. then (number_at 4 z) (λ c. Ok (Some (Entry.Level a b c)))))
entry_from Drop x y z = then (number_at 2 x) (λ a. Ok (Some (Entry.Drop a)))
entry_from Sheet x y z = Ok None

abbrev pub entered_by : Option Word → Bool → List (List ℕ) → Result (Option Entry) Fault
entered_by None last ds = Err malformed
entered_by (Some w) last ds =
    cond (placed last w && length ds == arity w) (entry_from w (slice_index_or ds 0 []) (slice_index_or ds 1 []) (slice_index_or ds 2 [])) (Err malformed)

-- the entry of a line after the first, without its ending
abbrev pub entry_in : Bool → List ℕ → Result (Option Entry) Fault
entry_in last line = entered_by (word_of (before 32 line)) last (others 32 line)

-- a line, ended by byte 10, and what comes after it
abbrev pub in_line : {X : Type 0} → (Bool → List ℕ → Result X Fault) → List ℕ → Result (X × List ℕ) Fault
in_line read bs = cond (has 10 bs) (then (read (length (after 10 bs) == 0) (before 10 bs)) (λ x. Ok (x, after 10 bs))) (Err malformed)

abbrev pub edition_line : List ℕ → Result (Published × List ℕ) Fault
edition_line bs = in_line (λ _ line. edition_in line) bs

abbrev pub entry_line : List ℕ → Result (Option Entry × List ℕ) Fault
entry_line bs = in_line entry_in bs

-- what was read of the next line is what it says
abbrev pub Reads : List ℕ → Option (Entry × Bor (List ℕ)) → Type 0
Reads bs None = entry_line bs ≡ Ok (None, after 10 bs)
Reads bs (Some p) = entry_line bs ≡ Ok (Some p.0, p.1.now)

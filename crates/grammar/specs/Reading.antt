-- The lines of a deck after the edition, handed over one by one.
use Rattle.std.specs.Prelude.{◌≡◌, ℕ, ◌+◌, ◌⊎◌, List, [], ◌∷◌, Some, None, Ok, Err, Option, Result}
use Rattle.std.specs.Borrow.{Bor}
use Rattle.text_bytes.specs.Pieces.{after}
use Rattle.faults.specs.declared.fault.Fault.{Fault}
use Rattle.grammar.specs.declared.entry.Entry.{Entry}
use Rattle.grammar.specs.declared.entry.Refusal.{Refusal}
use Rattle.grammar.specs.Lines.{entry_line}

-- the fault f on line k
abbrev pub on : ℕ → Fault → Refusal
on k f = record { fault = f; line = k }

-- one line: the sheet, or an entry that is taken; or a fault of the line, or the fault by which its entry is refused
abbrev pub Steps : {S : Type 0} → (S → Entry → Option Fault → S → Type 0) → List ℕ → S → Result (Option (Bor (List ℕ))) Fault → S → Type 0
Steps takes bs s (Ok None) t = (entry_line bs ≡ Ok (None, after 10 bs)) × (t ≡ s)
Steps takes bs s (Ok (Some rest)) t = (e : Entry) × (entry_line bs ≡ Ok (Some e, rest.now)) × takes s e None t
Steps takes bs s (Err f) t = ((entry_line bs ≡ Err f) × (t ≡ s)) ⊎ ((e : Entry) × (rest : List ℕ) × (entry_line bs ≡ Ok (Some e, rest)) × takes s e (Some f) t)

-- The lines of bs, from line k on, handed over to the state s. They are the entries es, the last of which may be refused, and then
-- the sheet or a line that is wrong. What comes of it is r, the line of the sheet or the refusal, and the state t.
abbrev pub Handed : {S : Type 0} → (S → Entry → Option Fault → S → Type 0) → ℕ → List ℕ → S → List Entry → Result ℕ Refusal → S → Type 0
Handed takes k bs s [] r t =
    ((entry_line bs ≡ Ok (None, after 10 bs)) × (r ≡ Ok k) × (t ≡ s))
    ⊎ ((f : Fault) × (entry_line bs ≡ Err f) × (r ≡ Err (on k f)) × (t ≡ s))
Handed {S} takes k bs s (e ∷ es) r t =
    (rest : List ℕ) × (entry_line bs ≡ Ok (Some e, rest))
    × (((f : Fault) × takes s e (Some f) t × (r ≡ Err (on k f)) × (es ≡ [])) ⊎ ((u : S) × takes s e None u × Handed takes (k + 1) rest u es r t))

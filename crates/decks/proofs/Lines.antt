-- The lines of a listing, one after another.
use Rattle.std.proofs.Common.{◌≡◌, ℕ, ◌+◌, ◌<◌, List, [], ◌∷◌, ◌++◌, length, get_or, take, sym, refl, ap, ◌∙◌, append_assoc, append-nil}
use Rattle.std.proofs.lemmas.List.{take_more}
use Rattle.sheets.specs.declared.line.Line.{Line}
use Rattle.decks.specs.Listing.{line_bytes, lines_bytes}

lines_++ : (ls ms : List Line) → lines_bytes (ls ++ ms) ≡ lines_bytes ls ++ lines_bytes ms
unfolding lines_bytes
lines_++ [] ms = refl
lines_++ (l ∷ ls) ms = ap (λ (z : List ℕ). line_bytes l ++ z) (lines_++ ls ms) ∙ sym (append_assoc (line_bytes l) (lines_bytes ls) (lines_bytes ms))

lines_one : (l : Line) → lines_bytes (l ∷ []) ≡ line_bytes l
unfolding lines_bytes
lines_one l = append-nil (line_bytes l)

pub lines_none : lines_bytes [] ≡ []
unfolding lines_bytes
lines_none = refl

pub lines_more : (ls : List Line) (i : ℕ) (d : Line) → i < length ls → lines_bytes (take (i + 1) ls) ≡ lines_bytes (take i ls) ++ line_bytes (get_or ls i d)
lines_more ls i d h = ap lines_bytes (take_more ls i d h) ∙ lines_++ (take i ls) (get_or ls i d ∷ []) ∙ ap (λ (z : List ℕ). lines_bytes (take i ls) ++ z) (lines_one (get_or ls i d))

-- What is written over the front of a buffer, of which the first bytes were lent.
use Rattle.std.proofs.Common.{◌≡◌, ℕ, ◌+◌, ◌≤◌, List, ◌++◌, length, drop, sym, ap, subst, ◌∙◌, append_assoc, arith}
use Rattle.std.specs.Array.{IsFirstChunk}
use Rattle.std.proofs.lemmas.List.{length-append, length-drop, length-take-le, drop-append-le, take-append-drop}
use Rattle.text_bytes.specs.Wrote.{Puts, wrote}

puts_beyond : (xs ys zs text : List ℕ) (n : ℕ) → length ys ≡ length xs → Puts xs 0 text ys n → Puts (xs ++ zs) 0 text (ys ++ zs) n
unfolding wrote
puts_beyond xs ys zs text n long p =
    let l : 0 + length text ≤ length xs = omega (arith, ap length p.bytes, length-append text (drop (0 + length text) xs), length-drop (0 + length text) xs) in
    record {
      bytes = ap (λ ws. ws ++ zs) p.bytes ∙ append_assoc text (drop (0 + length text) xs) zs ∙ ap (λ ws. text ++ ws) (sym (drop-append-le (0 + length text) xs zs l));
      ends = p.ends;
    }

-- what was put at the front of the lent bytes was put at the front of the buffer
pub puts_lent : (out page new text : List ℕ) (k n : ℕ) → IsFirstChunk out page k → length new ≡ k → Puts page 0 text new n → Puts out 0 text (new ++ drop k out) n
puts_lent out page new text k n first long p =
    let whole : page ++ drop k out ≡ out = rw first.same (take-append-drop k out) in
    let same : length new ≡ length page = omega (arith, long, ap length first.same, length-take-le k out first.enough) in
    subst (λ (ws : List ℕ). Puts ws 0 text (new ++ drop k out) n) whole (puts_beyond page new (drop k out) text n same p)

pub length_lent : (out new : List ℕ) (k : ℕ) → k ≤ length out → length new ≡ k → length (new ++ drop k out) ≡ length out
length_lent out new k h long = omega (arith, long, length-append new (drop k out), length-drop k out)

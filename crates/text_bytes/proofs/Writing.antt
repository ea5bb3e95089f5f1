-- What is written into a buffer: its length, and one text after another.
use Rattle.std.proofs.Common.{◌≡◌, ℕ, ◌+◌, ◌-◌, ◌≤◌, List, [], ◌++◌, length, take, drop, sym, refl, ap, ◌∙◌, append_assoc, add-zero, add_assoc, arith}
use borrow.Rule.Slice.PartMut.{put_mid}
use Rattle.std.proofs.lemmas.List.{length-take, length-append, length-drop, drop_at, drop-drop, take-append-drop}
use Rattle.std.proofs.lemmas.Slice.{take-put_mid, drop-put_mid}
use Rattle.text_bytes.specs.declared.put.Writer.{Writer}
use Rattle.text_bytes.specs.Writing.{Room, Writes}
use Rattle.text_bytes.specs.Wrote.{wrote, Puts}

-- it is what the library says of a write to a part of a slice
wrote_is : (xs : List ℕ) (at : ℕ) (ys : List ℕ) → wrote xs at ys ≡ put_mid at (length ys) xs ys
unfolding wrote
wrote_is xs at ys = ap (λ (z : List ℕ). take at xs ++ (ys ++ z)) (sym (drop-drop (length ys) at xs))

pub wrote_part : (xs : List ℕ) (at : ℕ) (ys zs : List ℕ) → zs ≡ ys → put_mid at (at + length ys - at) xs zs ≡ wrote xs at ys
wrote_part xs at ys zs e = let k : at + length ys - at ≡ length ys = omega arith in rw (k, e) (sym (wrote_is xs at ys))

pub length_wrote : (xs : List ℕ) (at : ℕ) (ys : List ℕ) → at + length ys ≤ length xs → length (wrote xs at ys) ≡ length xs
unfolding wrote
length_wrote xs at ys h = omega (arith, length-append {A = ℕ}, length-take {A = ℕ}, length-drop {A = ℕ})

-- one text after another is both at once
pub wrote_more : (xs : List ℕ) (at : ℕ) (ys zs : List ℕ) → at + length ys ≤ length xs → wrote (wrote xs at ys) (at + length ys) zs ≡ wrote xs at (ys ++ zs)
unfolding wrote
wrote_more xs at ys zs h =
    let e = at + length ys in
    let l : at ≤ length xs = omega arith in
    let w = wrote_is xs at ys in
    let front : take e (wrote xs at ys) ≡ take at xs ++ ys = ap (take e) w ∙ take-put_mid at (length ys) xs ys e refl l in
    let rest : drop (e + length zs) (wrote xs at ys) ≡ drop (e + length zs) xs = ap (drop (e + length zs)) w ∙ drop-put_mid at (length ys) xs ys (e + length zs) (omega arith) l refl in
    ap (λ (p : List ℕ). p ++ (zs ++ drop (e + length zs) (wrote xs at ys))) front
    ∙ ap (λ (q : List ℕ). (take at xs ++ ys) ++ (zs ++ q)) rest
    ∙ simp (append_assoc, length-append, add_assoc)

pub puts_more : (xs : List ℕ) (at : ℕ) (ys zs os : List ℕ) (i : ℕ) (ps : List ℕ) (j : ℕ) → Puts xs at ys os i → Puts os i zs ps j → i ≤ length xs → Puts xs at (ys ++ zs) ps j
puts_more xs at ys zs os i ps j u v h =
    let k : at + length ys ≤ length xs = omega arith in
    let l = length-append ys zs in
    record {
      bytes = v.bytes ∙ ap (λ (z : List ℕ). wrote z i zs) u.bytes ∙ ap (λ (z : ℕ). wrote (wrote xs at ys) z zs) u.ends ∙ wrote_more xs at ys zs k;
      ends = omega arith;
    }

pub puts_none : (xs : List ℕ) (at : ℕ) → Puts xs at [] xs at
unfolding wrote
puts_none xs at = record { bytes = sym (ap (λ (n : ℕ). take at xs ++ drop n xs) (add-zero at) ∙ take-append-drop at xs); ends = omega arith }

-- what is written at the front of a buffer lies within it, and the rest of the buffer keeps its contents
pub puts_within : (xs ys os : List ℕ) (i : ℕ) → Puts xs 0 ys os i → length os ≡ length xs → i ≤ length xs
unfolding wrote
puts_within xs ys os i u long = omega (arith, u.ends, ap length u.bytes, length-append ys (drop (0 + length ys) xs), length-drop (0 + length ys) xs)

pub puts_kept : (xs ys os : List ℕ) (i : ℕ) → Puts xs 0 ys os i → drop i os ≡ drop i xs
unfolding wrote
puts_kept xs ys os i u =
    let e : length ys ≡ i = omega (arith, u.ends) in
    ap (drop i) u.bytes ∙ drop_at ys (drop (0 + length ys) xs) i e ∙ ap (λ (n : ℕ). drop n xs) (sym u.ends)

-- the same of a writer
pub writes_part : (old new : Writer) (text zs : List ℕ) → Room old (length text) → zs ≡ text → new.out.now ≡ put_mid old.at (old.at + length text - old.at) old.out.now zs → new.at ≡ old.at + length text → new.out.ghost_name ≡ old.out.ghost_name → Writes old text new
writes_part old new text zs h e is end same =
    let p : new.out.now ≡ wrote old.out.now old.at text = is ∙ wrote_part old.out.now old.at text zs e in
    let l : length new.out.now ≡ length old.out.now = ap length p ∙ length_wrote old.out.now old.at text h in
    record { puts = record { bytes = p; ends = end }; long = l; within = omega arith; same_buffer = same }

pub writes_more : (a b c : Writer) (ys zs : List ℕ) → Writes a ys b → Writes b zs c → Writes a (ys ++ zs) c
writes_more a b c ys zs u v = record {
  puts = puts_more a.out.now a.at ys zs b.out.now b.at c.out.now c.at u.puts v.puts (omega arith);
  long = v.long ∙ u.long;
  within = v.within;
  same_buffer = v.same_buffer ∙ u.same_buffer;
}

pub writes_none : (w : Writer) → w.at ≤ length w.out.now → Writes w [] w
writes_none w h = record { puts = puts_none w.out.now w.at; long = refl; within = h; same_buffer = refl }

-- once the writer is done, its buffer has what it wrote
pub written : (old new : Writer) (text out : List ℕ) → Writes old text new → out ≡ new.out.now → Puts old.out.now old.at text out new.at
written old new text out u e = rw e u.puts

-- The whole answer.
use Rattle.std.proofs.Common.{◌≡◌, ℕ, zero, suc, ◌+◌, ◌-◌, ◌*◌, ◌<◌, ◌≤◌, Bool, true, false, cond, List, [], ◌∷◌, ◌++◌, reverse, length, get_or, take, drop, IfOk, Some, None, sum_by, Option, Result, sym, refl, ap, ◌∙◌, subst, arith}
use Rattle.std.specs.List.{find}
use Rattle.std.specs.Option.{option_map}
use Rattle.std.proofs.lemmas.List.FromFn.{length-map-range_with_len, get_or-map-range_with_len, take-map-range_with_len}
use Rattle.std.proofs.lemmas.List.{get_or-reverse, length-reverse, take_at}
use Rattle.std.proofs.lemmas.Bool.{ltb-false}
use Rattle.records.specs.declared.level.Level.{Level}
use Rattle.sheets.specs.declared.bearing.Bearing.{Bearing}
use Rattle.sheets.specs.declared.portion.Portion.{Portion}
use Rattle.editions.specs.declared.edition.Answers.{Answers}
use Rattle.sheets.specs.declared.line.Line.{Line}
use Rattle.sheets.specs.declared.line.Totals.{Totals}
use Rattle.faults.specs.declared.fault.Fault.{Fault}
use Rattle.sheets.specs.Summed.{summed}
use Rattle.sheets.specs.Bearings.{Standing, Falling, ground, bearings, height_at}
use Rattle.sheets.specs.Shares.{Certain, portion, force, uncertain, lowest_uncertain}
use Rattle.sheets.specs.Sheet.{Lawful, no_line, line_of, lines_of, amount_of, refused, totals, lines, answered, written}
use Rattle.sheets.specs.Laws.{Sound}
use Rattle.sheets.proofs.Sums.{summed_counting}
use Rattle.sheets.proofs.Levels.{length_bearings, bearing_at, levels_fall}
use Rattle.sheets.proofs.Sharing.{forces_whole}

-- where nothing is found, nothing passes
one_none : {X : Type 0} (b : Bool) (x : X) (o : Option X) → cond b (Some x) o ≡ None → (b ≡ false) × (o ≡ None)
one_none true x o e = (cc, cc)
one_none false x o e = (refl, e)

find_none : {X : Type 0} (test : X → Bool) (xs : List X) (k : ℕ) (d : X) → find test xs ≡ None → k < length xs → test (get_or xs k d) ≡ false
find_none test [] k d e h = absurd (omega arith)
find_none test (x ∷ xs) zero d e h = (one_none (test x) x (find test xs) e).0
find_none test (x ∷ xs) (suc k) d e h = find_none test xs k d (one_none (test x) x (find test xs) e).1 (omega arith)

map_none : {X : Type 0} (h : X → ℕ) (o : Option X) → option_map h o ≡ None → o ≡ None
map_none h None e = refl
map_none h (Some x) e = cc

pub none_uncertain : (p : Portion) (bs : List Bearing) → lowest_uncertain p bs ≡ None → Certain p bs
unfolding lowest_uncertain
none_uncertain p bs e = λ k h.
    let n = length-reverse bs in
    let f = find_none (uncertain p) (reverse bs) (length bs - 1 - k) ground (map_none (λ (b : Bearing). b.height) (find (uncertain p) (reverse bs)) e) (omega arith) in
    let s : get_or (reverse bs) (length bs - 1 - k) ground ≡ get_or bs k ground = get_or-reverse bs (length bs - 1 - k) ground (omega arith) ∙ ap (λ (j : ℕ). get_or bs j ground) (omega arith) in
    ltb-false _ _ (ap (uncertain p) (sym s) ∙ f)

pub length_lines : (a : Answers) (bs : List Bearing) → length (lines a bs) ≡ length bs
unfolding lines_of
length_lines a bs = length-map-range_with_len _ 0 (length bs)

-- the k-th line
pub line_at : (a : Answers) (bs : List Bearing) (k : ℕ) → k < length bs → get_or (lines a bs) k no_line ≡ line_of (force (amount_of a) a.top bs) a.top (portion (amount_of a) bs) bs k
unfolding lines_of
line_at a bs k h = get_or-map-range_with_len (line_of (force (amount_of a) a.top bs) a.top (portion (amount_of a) bs) bs) 0 (length bs) k k no_line h (omega arith)

-- a sum over the first k lines
pub lines_sum : (g : Line → ℕ) (a : Answers) (bs : List Bearing) (k : ℕ) → k ≤ length bs →
    sum_by g (take k (lines a bs)) ≡ summed k (λ i. g (line_of (force (amount_of a) a.top bs) a.top (portion (amount_of a) bs) bs i))
unfolding lines_of
lines_sum g a bs k h =
    let line : ℕ → Line = line_of (force (amount_of a) a.top bs) a.top (portion (amount_of a) bs) bs in
    ap (sum_by g) (take-map-range_with_len line 0 (length bs) k h) ∙ summed_counting g line k

pub lines_all : (g : Line → ℕ) (a : Answers) (bs : List Bearing) →
    sum_by g (lines a bs) ≡ summed (length bs) (λ i. g (line_of (force (amount_of a) a.top bs) a.top (portion (amount_of a) bs) bs i))
unfolding lines_of
lines_all g a bs = summed_counting g (line_of (force (amount_of a) a.top bs) a.top (portion (amount_of a) bs) bs) (length bs)

pub lines_sound : (a : Answers) (levels : List Level) → Lawful a → Standing levels →
    Sound a levels (totals a (bearings a.exponent levels)) (lines a (bearings a.exponent levels))
lines_sound a levels law st =
    let bs : List Bearing = bearings a.exponent levels in
    let n : length bs ≡ length levels = length_bearings a.exponent levels in
    let f : Falling bs = levels_fall a.exponent levels law.exponent st in
    record {
      count = length_lines a bs ∙ n;
      heights = λ k h. let hb : k < length bs = omega arith in
          ap (λ (l : Line). l.height) (line_at a bs k hb) ∙ ap (λ (b : Bearing). b.height) (bearing_at a.exponent levels k ground h);
      whole = lines_all (λ (l : Line). l.force) a bs ∙ forces_whole (amount_of a) a.top bs (length bs) refl (omega (arith, st.some)) f.stands ∙ omega (arith, law.top);
      sheared = λ k h. let hb : k < length bs = omega arith in
          ap (λ (l : Line). l.shear) (line_at a bs k hb) ∙ sym (lines_sum (λ (l : Line). l.force) a bs (k + 1) (omega arith));
      turned = λ k h. let hb : k < length bs = omega arith in
          let e = line_at a bs k hb in
          ap (λ (l : Line). l.moment) e
          ∙ sym (lines_sum (λ (l : Line). l.force * (l.height - height_at bs k)) a bs k (omega arith))
          ∙ ap (λ (x : ℕ). sum_by (λ (l : Line). l.force * (l.height - x)) (take k (lines a bs))) (sym (ap (λ (l : Line). l.height) e));
      base = refl;
      based = sym (lines_all (λ (l : Line). l.force * l.height) a bs);
    }

pub sound_made : (a : Answers) (levels : List Level) (old new : List Line) (o : Option Fault) (r : Result Totals Fault) → Lawful a → Standing levels →
    o ≡ refused a (bearings a.exponent levels) (length old) → r ≡ answered o (totals a (bearings a.exponent levels)) →
    new ≡ written o (lines a (bearings a.exponent levels) ++ drop (length (bearings a.exponent levels)) old) old →
    IfOk r (λ t. Sound a levels t (take (length levels) new))
sound_made a levels old new (Some f) r law st eo er en =
    subst (λ (x : Result Totals Fault). IfOk x (λ t. Sound a levels t (take (length levels) new))) (sym er) tt
sound_made a levels old new None r law st eo er en =
    let bs : List Bearing = bearings a.exponent levels in
    let front : take (length levels) new ≡ lines a bs =
    ap (take (length levels)) en ∙ take_at (lines a bs) (drop (length bs) old) (length levels) (length_lines a bs ∙ length_bearings a.exponent levels) in
    subst (λ (x : Result Totals Fault). IfOk x (λ t. Sound a levels t (take (length levels) new))) (sym er)
    (subst (Sound a levels (totals a bs)) (sym front) (lines_sound a levels law st))

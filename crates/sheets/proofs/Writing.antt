-- The lines as they are written, one after another.
use Rattle.std.proofs.Common.{◌≡◌, ℕ, ◌+◌, ◌-◌, ◌*◌, ◌<◌, ◌≤◌, List, [], ◌∷◌, ◌++◌, map, length, get_or, drop, set, sym, refl, ap, ◌∙◌, subst, ⊎_elim, eq-or-lt_of_le, mul-zero, arith}
use native.Mathlib.Nat.{sub_self}
use Rattle.std.specs.List.{range_with_len}
use Rattle.std.proofs.lemmas.List.FromFn.{length-map-range_with_len, map-range_with_len_more}
use Rattle.std.proofs.lemmas.List.{drop_more, set_at, append_assoc}
use Rattle.sheets.specs.Summed.{summed}
use Rattle.sheets.specs.declared.bearing.Bearing.{Bearing}
use Rattle.sheets.specs.declared.portion.Portion.{Portion}
use Rattle.sheets.specs.declared.line.Line.{Line}
use Rattle.sheets.specs.Bearings.{ground, height_at}
use Rattle.sheets.specs.Shares.{at_roof, low_share, high_share}
use Rattle.sheets.specs.Sheet.{no_line, moment, base_moment, line_of, lines_of}
use Rattle.sheets.proofs.Sums.{summed_none, summed_more, summed_same, longer, summed_upto}

-- k levels down, at the height `above`
pub record Sofar (f h : ℕ → ℕ) (n k above shear moment : ℕ) : Type 0 where
  pub sheared : shear ≡ summed k f
  pub turned : moment ≡ summed k (λ i. f i * (h i - above))
  pub under : (i : ℕ) → i < k → above ≤ h i
  pub next : k < n → h k ≤ above

pub sofar_none : (f h : ℕ → ℕ) (n : ℕ) → Sofar f h n 0 (h 0) 0 0
sofar_none f h n =
    record {
      sheared = sym (summed_none f);
      turned = sym (summed_none (λ i. f i * (h i - h 0)));
      under = λ i l. absurd (omega arith);
      next = λ _. omega arith;
    }

-- the moment at the next level
pub turned_next : (f h : ℕ → ℕ) (n k above shear moment₀ : ℕ) → Sofar f h n k above shear moment₀ → k < n →
    moment₀ + shear * (above - h k) ≡ moment f h k
turned_next f h n k above shear moment₀ so l =
    let e = longer k f h (h k) above (so.next l) so.under in
    omega (arith, so.turned, ap (λ (s : ℕ). s * (above - h k)) so.sheared)

pub sofar_more : (f h : ℕ → ℕ) (n k above shear moment₀ : ℕ) → Sofar f h n k above shear moment₀ → k < n →
    ((i j : ℕ) → i < j → j < n → h j ≤ h i) → Sofar f h n (k + 1) (h k) (shear + f k) (moment₀ + shear * (above - h k))
sofar_more f h n k above shear moment₀ so l falls =
    record {
      sheared = omega (arith, so.sheared, summed_more k f);
      turned = omega (arith, turned_next f h n k above shear moment₀ so l, summed_more k (λ i. f i * (h i - h k)), ap (λ (x : ℕ). f k * x) (sub_self (h k)), mul-zero (f k));
      under = λ i li. ⊎_elim
          (λ (e : i ≡ k). subst (λ (j : ℕ). h k ≤ h j) (sym e) (omega arith))
          (λ (lt : i < k). falls i k lt l)
          (eq-or-lt_of_le (omega arith));
      next = λ m. falls k (k + 1) (omega arith) m;
    }

-- the moment at the base
pub turned_all : (f h : ℕ → ℕ) (n k above shear moment₀ : ℕ) → Sofar f h n k above shear moment₀ → k ≡ n →
    moment₀ + shear * (above - 0) ≡ base_moment f h n
turned_all f h n k above shear moment₀ so ek =
    let e = longer k f h 0 above (omega arith) so.under in
    let z : summed k (λ i. f i * (h i - 0)) ≡ summed k (λ i. f i * h i) = summed_same k (λ i. f i * (h i - 0)) (λ i. f i * h i) (λ i l. ap (λ (x : ℕ). f i * x) (omega arith)) in
    let t : moment₀ + shear * (above - 0) ≡ base_moment f h k = omega (arith, so.turned, ap (λ (s : ℕ). s * (above - 0)) so.sheared) in
    t ∙ ap (base_moment f h) ek

-- what is summed stays within bounds
pub shear_le : (f h : ℕ → ℕ) (n k above shear moment₀ m : ℕ) → Sofar f h n k above shear moment₀ → k < n → summed n f ≤ m → shear + f k ≤ m
shear_le f h n k above shear moment₀ m so l whole =
    omega (arith, so.sheared, summed_more k f, summed_upto (k + 1) n f (omega arith))

-- a line more
pub written_more : {X : Type 0} (g : ℕ → X) (k : ℕ) (old now : List X) (x d : X) → k < length old → now ≡ map g (range_with_len 0 k) ++ drop k old → x ≡ g k →
    set now k x ≡ map g (range_with_len 0 (k + 1)) ++ drop (k + 1) old
written_more {X} g k old now x d h e ex =
    let done : List X = map g (range_with_len 0 k) in
    ap (λ (t : List X). set t k x) (e ∙ ap (λ (t : List X). done ++ t) (drop_more old k d h))
    ∙ set_at done (get_or old k d) (drop (k + 1) old) x k (length-map-range_with_len g 0 k)
    ∙ ap (λ (y : X). done ++ y ∷ drop (k + 1) old) ex
    ∙ sym (append_assoc done (g k ∷ []) (drop (k + 1) old))
    ∙ ap (λ (t : List X). t ++ drop (k + 1) old) (sym (map-range_with_len_more g 0 k k (omega arith)))

-- n levels down: the lines so far stand before what the list held
pub record Written (f : ℕ → ℕ) (top : ℕ) (p : Portion) (bs : List Bearing) (old now : List Line) (n above shear moment : ℕ) : Type 0 where
  pub sofar : Sofar f (height_at bs) (length bs) n above shear moment
  pub lines : now ≡ map (line_of f top p bs) (range_with_len 0 n) ++ drop n old

pub written_none : (f : ℕ → ℕ) (top : ℕ) (p : Portion) (bs : List Bearing) (old : List Line) (above shear moment₀ : ℕ) → (above ≡ height_at bs 0) × (shear ≡ 0) × (moment₀ ≡ 0) →
    Written f top p bs old old 0 above shear moment₀
written_none f top p bs old above shear moment₀ h =
    let same : ◌≡◌ {A = ℕ × (ℕ × ℕ)} (height_at bs 0, (0, 0)) (above, (shear, moment₀)) = cc in
    record { sofar = subst (λ (x : ℕ × (ℕ × ℕ)). Sofar f (height_at bs) (length bs) 0 x.0 x.1.0 x.1.1) same (sofar_none f (height_at bs) (length bs)); lines = refl }

pub written_next : (f : ℕ → ℕ) (top : ℕ) (p : Portion) (bs : List Bearing) (old now : List Line) (n m k above shear moment₀ height shear' moment' force : ℕ) (b : Bearing) (l : Line) →
    Written f top p bs old now n above shear moment₀ → n < length bs → m ≡ n + 1 → k ≡ n → b ≡ get_or bs n ground → force ≡ f n →
    ((i j : ℕ) → i < j → j < length bs → height_at bs j ≤ height_at bs i) → length bs ≤ length old →
    height ≡ b.height → shear' ≡ shear + force → moment' ≡ moment₀ + shear * (above - b.height) →
    l ≡ record { height = b.height; force = force; low = low_share p b + at_roof top k; high = high_share p b + at_roof top k; shear = shear'; moment = moment' } →
    Written f top p bs old (set now k l) m height shear' moment'
written_next f top p bs old now n m k above shear moment₀ height shear' moment' force b l w below em ek eb ef falls room eh es et el =
    let h : ℕ → ℕ = height_at bs in
    let so = w.sofar in
    let at : height ≡ h n = eh ∙ ap (λ (c : Bearing). c.height) eb in
    let moved : moment' ≡ moment₀ + shear * (above - h n) = et ∙ ap (λ (c : Bearing). moment₀ + shear * (above - c.height)) eb in
    let turned : moment' ≡ moment f h n = moved ∙ turned_next f h (length bs) n above shear moment₀ so below in
    let more = sofar_more f h (length bs) n above shear moment₀ so below falls in
    let sheared : shear' ≡ summed (n + 1) f = es ∙ ap (λ (y : ℕ). shear + y) ef ∙ more.sheared in
    let line : l ≡ line_of f top p bs n = cc in
    let same : ◌≡◌ {A = ℕ × (ℕ × (ℕ × ℕ))} (n + 1, (h n, (shear + f n, moment₀ + shear * (above - h n)))) (m, (height, (shear', moment'))) = cc in
    record {
      sofar = subst (λ (x : ℕ × (ℕ × (ℕ × ℕ))). Sofar f h (length bs) x.0 x.1.0 x.1.1.0 x.1.1.1) same more;
      lines = ap (λ (j : ℕ). set now j l) ek ∙ written_more (line_of f top p bs) n old now l no_line (omega arith) w.lines line
          ∙ ap (λ (j : ℕ). map (line_of f top p bs) (range_with_len 0 j) ++ drop j old) (sym em);
    }

pub written_all : (f : ℕ → ℕ) (top : ℕ) (p : Portion) (bs : List Bearing) (k : ℕ) (old now : List Line) → k ≡ length bs →
    now ≡ map (line_of f top p bs) (range_with_len 0 k) ++ drop k old → now ≡ lines_of f top p bs ++ drop (length bs) old
unfolding lines_of
written_all f top p bs k old now ek e = e ∙ ap (λ (n : ℕ). map (line_of f top p bs) (range_with_len 0 n) ++ drop n old) ek

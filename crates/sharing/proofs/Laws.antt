-- The laws of sharing by the running remainder.
use Rattle.std.proofs.Common.{◌≡◌, ℕ, ◌+◌, ◌-◌, ◌*◌, ◌/◌, ◌%◌, ◌<◌, ◌≤◌, List, map, length, get_or, take, drop, set, sum, sym, refl, ap, ◌∙◌, subst, ⊎_elim, add-mul, mul-le-mul, eq-or-lt_of_le, mul-le-mul_left, mul-zero, div-add-mod', mul-add, div-mul-le_self, le_of_mul-le-mul_right, mul-div_cancel, arith}
use native.Mathlib.Nat.{zero-div}
use lib.ListN.{length-map}
use Rattle.std.specs.List.{AllByRecursion}
use Rattle.std.proofs.ByRecursion.{All-get_or, sum_by_le}
use Rattle.std.proofs.lemmas.List.Sums.{sum_by_more, sum_by_push, sum_by-take-le, sum-map}
use Rattle.std.proofs.lemmas.List.{get_or-map, take_all, take_more_set, take-set-le, drop-set-lt}
use Rattle.std.proofs.lemmas.Nat.{div-mul-add, le-div, div_below, mod_below}
use Rattle.sharing.specs.Sharing.{limit, Shared}

-- one more bearer's stake
pub stakes_more : {X : Type 0} (f : X → ℕ) (xs : List X) (i : ℕ) (x : X) (s : ℕ) → i < length xs → x ≡ get_or xs i x → s ≡ f x → sum (take (i + 1) (map f xs)) ≡ sum (take i (map f xs)) + s
stakes_more f xs i x s h e es =
    let h' : i < length (map f xs) = rw length-map h in
    sum_by_more (λ n. n) (map f xs) i 0 h' ∙ ap (λ n. sum (take i (map f xs)) + n) (get_or-map f xs i x 0 h ∙ ap f (sym e) ∙ sym es)

-- the quotient from the division's equation
pub floor_of : (a w b n : ℕ) → b < w → a * w + b ≡ n → a ≡ n / w
floor_of a w b n h e = sym (ap (λ m. m / w) (sym e) ∙ div-mul-add a w b h)

-- one turn of the sharing
pub carry_more : (P T r A S s q r' : ℕ) → P * T + r ≡ A * S → q * T + r' ≡ A * s + r → (P + q) * T + r' ≡ A * (S + s)
carry_more P T r A S s q r' e d = omega (arith, add-mul P q T, mul-add A S s)

-- two parts rounded by themselves, and together
pub floors : (A S s T : ℕ) → 0 < T → A * s / T + A * S / T ≤ A * (S + s) / T
floors A S s T h =
    le-div _ _ T h (omega (arith, add-mul (A * s / T) (A * S / T) T, div-mul-le_self (A * s) T, div-mul-le_self (A * S) T, mul-add A S s))

pub ceilings : (A S s T : ℕ) → 0 < T → A * (S + s) / T ≤ A * S / T + (A * s + (T - 1)) / T
ceilings A S s T h =
    let y : ℕ = A * S / T in
    let z : ℕ = (A * s + (T - 1)) / T in
    let b : A * (S + s) / T < y + z + 1 =
    div_below (A * (S + s)) T (y + z + 1) h
    (omega (arith, add-mul (y + z) 1 T, add-mul y z T, mul-add A S s, div-add-mod' (A * S) T, mod_below (A * S) T h, div-add-mod' (A * s + (T - 1)) T, mod_below (A * s + (T - 1)) T h)) in
    omega arith

-- the sharing after i bearers
pub record Sofar (amount total rest i : ℕ) (stakes before after : List ℕ) : Type 0 where
  pub carry : sum (take i after) * total + rest ≡ amount * sum (take i stakes)
  pub small : rest < total
  pub running : (k : ℕ) → k ≤ i → sum (take k after) ≡ amount * sum (take k stakes) / total
  pub kept : drop (length stakes) after ≡ drop (length stakes) before

pub sofar_none : (A T : ℕ) (stakes before : List ℕ) → 0 < T → Sofar A T 0 0 stakes before before
sofar_none A T stakes before h =
    record {
      carry = omega (arith, mul-zero A);
      small = h;
      running = λ k l. let z : 0 ≡ k = omega arith in
          subst (λ (n : ℕ). sum (take n before) ≡ A * sum (take n stakes) / T) z (sym (ap (λ n. n / T) (mul-zero A) ∙ zero-div T));
      kept = refl;
    }

pub sofar_more : (A T r i : ℕ) (stakes before after : List ℕ) (s q r' : ℕ) → Sofar A T r i stakes before after → i < length stakes → i < length after →
    sum (take (i + 1) stakes) ≡ sum (take i stakes) + s → q * T + r' ≡ A * s + r → r' < T → Sofar A T r' (i + 1) stakes before (set after i q)
sofar_more A T r i stakes before after s q r' so hs ha es ed small =
    let put : sum (take (i + 1) (set after i q)) ≡ sum (take i after) + q = ap sum (take_more_set after i q ha) ∙ sum_by_push (λ n. n) (take i after) q in
    let carried : sum (take (i + 1) (set after i q)) * T + r' ≡ A * sum (take (i + 1) stakes) =
    rw (put, es) (carry_more (sum (take i after)) T r A (sum (take i stakes)) s q r' so.carry ed) in
    record {
      carry = carried;
      small = small;
      running = λ k l. ⊎_elim
          (λ (e : k ≡ i + 1). subst (λ (n : ℕ). sum (take n (set after i q)) ≡ A * sum (take n stakes) / T) (sym e) (floor_of _ T r' _ small carried))
          (λ (b : k < i + 1). let m : k ≤ i = omega arith in ap sum (take-set-le k after i q m) ∙ so.running k m)
          (eq-or-lt_of_le l);
      kept = drop-set-lt (length stakes) after i q hs ∙ so.kept;
    }

-- a share is at most the amount
pub share_le : (A T r i : ℕ) (stakes before after : List ℕ) (s q r' : ℕ) → Sofar A T r i stakes before after → T ≡ sum stakes →
    sum (take (i + 1) stakes) ≡ sum (take i stakes) + s → q * T + r' ≡ A * s + r → q ≤ A
share_le A T r i stakes before after s q r' so et es ed =
    let pos : 0 < T = omega (arith, so.small) in
    let P : ℕ = sum (take i after) in
    let S : ℕ = sum (take i stakes) in
    let le : S + s ≤ T = omega (arith, sum_by-take-le (λ n. n) stakes (i + 1)) in
    le_of_mul-le-mul_right {k = T}
    (omega (arith, carry_more P T r A S s q r' so.carry ed, add-mul P q T, mul-le-mul_left A le)) pos

-- one turn at a bearer that is read, in whatever width it is worked: its share is at most the amount, and the running law goes on
pub turn : {X : Type 0} (f : X → ℕ) (xs : List X) {A T r i : ℕ} {before after : List ℕ} {x : X} {s q r' : ℕ} → Sofar A T r i (map f xs) before after → T ≡ sum (map f xs) →
    length xs ≤ length before → length after ≡ length before → i < length xs → x ≡ get_or xs i x → s ≡ f x → q ≡ (A * s + r) / T → r' ≡ (A * s + r) % T →
    (q ≤ A) × Sofar A T r' (i + 1) (map f xs) before (set after i q)
turn f xs {A = A} {T = T} {r = r} {s = s} {q = q} {r' = r'} so et room same h e es eq er =
    let more = stakes_more f xs _ _ _ h e es in
    let parts : q * T + r' ≡ A * s + r = rw (eq, er) (div-add-mod' (A * s + r) T) in
    let small : r' < T = rw er (mod_below (A * s + r) T (omega (arith, so.small))) in
    (share_le _ _ _ _ _ _ _ _ _ _ so et more parts, sofar_more _ _ _ _ _ _ _ _ _ _ so (rw length-map h) (omega (arith, h, room, same)) more parts small)

pub shared_all : (A T r n : ℕ) (stakes before after : List ℕ) → Sofar A T r n stakes before after → T ≡ sum stakes → length stakes ≤ n → length stakes ≤ length after →
    Shared A stakes before after
shared_all A T r n stakes before after so et full room =
    let pos : 0 < sum stakes = omega (arith, so.small) in
    let run : (k : ℕ) → k ≤ length stakes → sum (take k after) ≡ A * sum (take k stakes) / sum stakes =
    λ k l. let m : k ≤ n = omega arith in so.running k m ∙ ap (λ t. A * sum (take k stakes) / t) et in
    let step : (k : ℕ) → k < length stakes → get_or after k 0 + A * sum (take k stakes) / sum stakes ≡ A * (sum (take k stakes) + get_or stakes k 0) / sum stakes =
    λ k l.
    let l1 : k + 1 ≤ length stakes = omega arith in
    let l0 : k ≤ length stakes = omega arith in
    let la : k < length after = omega arith in
    let e1 = run (k + 1) l1 in
    let e0 = run k l0 in
    let ea = sum_by_more (λ n. n) after k 0 la in
    let es = ap (λ m. A * m / sum stakes) (sum_by_more (λ n. n) stakes k 0 l) in
    omega (arith, e1, e0, ea, es) in
    record {
      running = run;
      whole = run (length stakes) (omega arith) ∙ ap (λ m. A * m / sum stakes) (ap sum (take_all (length stakes) stakes (omega arith))) ∙ mul-div_cancel A pos;
      least = λ k l. omega (arith, step k l, floors A (sum (take k stakes)) (get_or stakes k 0) (sum stakes) pos);
      most = λ k l. omega (arith, step k l, ceilings A (sum (take k stakes)) (get_or stakes k 0) (sum stakes) pos);
      kept = so.kept;
    }

-- after the last bearer
pub turned : {X : Type 0} (f : X → ℕ) (xs : List X) {A T r n : ℕ} {before after : List ℕ} → Sofar A T r n (map f xs) before after → T ≡ sum (map f xs) →
    length xs ≤ length before → length after ≡ length before → length xs ≤ n → Shared A (map f xs) before after
turned f xs so et room same full = shared_all _ _ _ _ _ _ _ so et (rw length-map full) (rw length-map (omega (arith, room, same)))

-- a read bearer's stake is within what is asked of all
pub stake_within : {X : Type 0} (f : X → ℕ) (m : ℕ) (xs : List X) (i : ℕ) (x : X) (s : ℕ) → AllByRecursion (λ b. f b ≤ m) xs → i < length xs → x ≡ get_or xs i x → s ≡ f x → s ≤ m
stake_within f m xs i x s all h e es =
    omega (arith, All-get_or (λ b. f b ≤ m) xs i x h all, ap f e)

pub total_le : {X : Type 0} (f : X → ℕ) (m : ℕ) (xs : List X) → AllByRecursion (λ b. f b ≤ m) xs → m ≤ limit → length xs ≤ 64 → sum (map f xs) ≤ 64 * limit
total_le f m xs all hm hl = omega (arith, sum-map f xs, sum_by_le f m xs all, mul-le-mul hl hm)

-- A walk over the levels with their forces, each with its place.
use Rattle.std.proofs.Common.{◌≡◌, ℕ, ◌+◌, ◌<◌, Bor, Iter, List, length, get_or, Option, Some, None, ap, ◌∙◌, arith}
use Rattle.std.specs.declared.iter.Enumerate.{Enumerate}
use Rattle.std.specs.declared.iter.Zip.{Zip}
use Rattle.std.specs.Iterator.{Yields}
use Rattle.std.specs.Iterator.Adapters.{enumerate_steps}
use Rattle.std.specs.List.{enumerate_from, zip}
use Rattle.std.proofs.iter.Yields.{fronts}
use Rattle.std.proofs.lemmas.Iterator.{YieldsList, YieldsList-from_slice, YieldsList-from_zip, zips}
use Rattle.std.proofs.lemmas.Iterator.Consumers.{YieldsList-turn, YieldsList-end, YieldsList-from_enumerate}
use Rattle.std.proofs.lemmas.List.{get_or_default}
use Rattle.std.proofs.lemmas.List.FromFn.{length-enumerate_from, get_or-enumerate_from}
use Rattle.std.proofs.lemmas.Slice.Zip.{length-zip, get_or-zip}
use Rattle.sheets.specs.declared.bearing.Bearing.{Bearing}
use Rattle.sheets.specs.Bearings.{ground}

-- a walk over the levels with their forces and places
abbrev pub Walk : Type 0
Walk = Enumerate (Zip (Iter Bearing) (Iter ℕ))

abbrev pub Item : Type 0
Item = ℕ × (Bor Bearing × Bor ℕ)

abbrev pub walks : Walk → Option Item → Walk → Type 0
walks = enumerate_steps (zips fronts fronts)

-- one that is at its start
pub record Starts (bs : List Bearing) (forces : List ℕ) (s : Walk) : Type 0 where
  pub levels : s.iter.a.rest.now ≡ bs
  pub shares : s.iter.b.rest.now ≡ forces
  pub count : s.count ≡ 0
  pub even : length forces ≡ length bs

road : (bs : List Bearing) (forces : List ℕ) (s : Walk) → Starts bs forces s → YieldsList walks (λ p. (p.0, (p.1.0.now, p.1.1.now))) s (enumerate_from 0 (zip bs forces))
road bs forces s h =
    YieldsList-from_enumerate (YieldsList-from_zip (YieldsList-from_slice {s = s.iter.a} bs h.levels) (YieldsList-from_slice {s = s.iter.b} forces h.shares)) h.count

-- what comes after n levels: the place, the level and its force
pub record Turn (bs : List Bearing) (forces : List ℕ) (n k : ℕ) (b : Bearing) (f : ℕ) : Type 0 where
  pub below : n < length bs
  pub place : k ≡ n
  pub bearer : b ≡ get_or bs n ground
  pub force : f ≡ get_or forces n 0

pub turn : (s t u : Walk) (bs : List Bearing) (forces : List ℕ) → Starts bs forces s → (xs : List Item) → Yields walks s xs t → (r : Option Item) (x : Item) → r ≡ Some x → walks t r u → Turn bs forces (length xs) x.0 x.1.0.now x.1.1.now
turn s t u bs forces start xs y r x is step =
    let v : ℕ × (Bearing × ℕ) = (x.0, (x.1.0.now, x.1.1.now)) in
    let h = YieldsList-turn (road bs forces s start) xs t y r u x is step in
    let n : ℕ = length xs in
    let lz : n < length (zip bs forces) = omega (arith, h.0, length-enumerate_from 0 (zip bs forces)) in
    let lb : n < length bs = omega (arith, length-zip bs forces) in
    let e : v ≡ (0 + n, get_or (zip bs forces) n v.1) = h.1 ∙ get_or-enumerate_from 0 (zip bs forces) n v lz in
    let z : get_or (zip bs forces) n v.1 ≡ (get_or bs n v.1.0, get_or forces n v.1.1) = get_or-zip bs forces n v.1 lb (omega (arith, start.even)) in
    record {
      below = lb;
      place = omega (arith, ap (λ (p : ℕ × (Bearing × ℕ)). p.0) e);
      bearer = ap (λ (p : ℕ × (Bearing × ℕ)). p.1.0) e ∙ ap (λ (p : Bearing × ℕ). p.0) z ∙ get_or_default bs n v.1.0 ground lb;
      force = ap (λ (p : ℕ × (Bearing × ℕ)). p.1.1) e ∙ ap (λ (p : Bearing × ℕ). p.1) z ∙ get_or_default forces n v.1.1 0 (omega (arith, start.even));
    }

-- when nothing comes, all levels came
pub turned : (s t u : Walk) (bs : List Bearing) (forces : List ℕ) → Starts bs forces s → (xs : List Item) → Yields walks s xs t → (r : Option Item) → r ≡ None → walks t r u → length xs ≡ length bs
turned s t u bs forces start xs y r is step =
    let h = YieldsList-end (road bs forces s start) xs t y r u is step in
    omega (arith, h.1, length-enumerate_from 0 (zip bs forces), length-zip bs forces, start.even)

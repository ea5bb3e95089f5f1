-- A step of the reading, once the line is put to its fault.
use Rattle.std.proofs.Common.{◌≡◌, List, ℕ, Ok, Err, Option, Result, subst, MatchResult, Bor}
use Rattle.std.specs.Result.{IsErrAnd}
use Rattle.faults.specs.declared.fault.Fault.{Fault}
use Rattle.grammar.specs.declared.entry.Entry.{Entry}
use Rattle.grammar.specs.declared.entry.Refusal.{Refusal}
use Rattle.grammar.specs.Reading.{Steps}

module _ {S : Type 0} (takes : S → Entry → Option Fault → S → Type 0) (bs : List ℕ) (s t : S) (Q : Fault → Refusal → Type 0) where
  -- it went well, with o, which is p
  pub went : (r : Result (Option (Bor (List ℕ))) Fault) (m : Result (Option (Bor (List ℕ))) Refusal) → MatchResult r (λ x. m ≡ Ok x) (λ e. IsErrAnd m (Q e)) → Steps takes bs s r t → (o p : Option (Bor (List ℕ))) → m ≡ Ok o → o ≡ p → Steps takes bs s (Ok p) t
  went (Ok x) m h st o p e i = let z : x ≡ p = cc in subst (λ (y : Option (Bor (List ℕ))). Steps takes bs s (Ok y) t) z st
  went (Err f) m h st o p e i = absurd (rw e at h)

  -- it was refused
  pub refused : (r : Result (Option (Bor (List ℕ))) Fault) (m : Result (Option (Bor (List ℕ))) Refusal) → MatchResult r (λ x. m ≡ Ok x) (λ e. IsErrAnd m (Q e)) → Steps takes bs s r t → (x : Refusal) → m ≡ Err x → (f : Fault) × Q f x × Steps takes bs s (Err f) t
  refused (Ok y) m h st x e = absurd cc
  refused (Err f) m h st x e = (f, rw e at h, st)

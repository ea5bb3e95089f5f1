-- The levels come from the lowest up, and each is borne.
use Rattle.std.proofs.Common.{◌≡◌, ℕ, Some, None, Option, ap, ◌∙◌, rules, tests}
use Rattle.std.specs.Option.{MatchOption, IsSomeAnd, option_map}
use Rattle.std.proofs.lemmas.Iterator.Adapters.{YieldsList-from_rev_slice}
use Rattle.std.proofs.lemmas.Iterator.Search.{find_from_yields_List}
use Rattle.sheets.specs.declared.bearing.Bearing.{Bearing}
use Rattle.sheets.specs.Shares.{uncertain, lowest_uncertain}
use Rattle.sheets.proofs.layout.Layout.lowest_uncertain.Goals as goal

-- what `map` gives of what `find` gave
mapped : {X Y : Type 0} (v : X → Y) (h : Y → ℕ) (P : X → ℕ → Type 0) (found : Option X) (r : Option ℕ) → MatchOption found (r ≡ None) (λ x. IsSomeAnd r (P x)) → ((x : X) (n : ℕ) → P x n → n ≡ h (v x)) →
    r ≡ option_map h (option_map v found)
mapped v h P None r m p = m
mapped v h P (Some x) (Some n) m p = ap Some (p x n m)
mapped v h P (Some x) None m p = absurd m

pub returns : goal.returns
unfolding lowest_uncertain
returns c =
    let e = find_from_yields_List (uncertain c.args.self.now.portion) _ _ c.find.result c.find.ensures.ran (YieldsList-from_rev_slice c.args.self.now.bearers.now cc) (λ x b q k. search (rules, tests)) in
    mapped (λ x. x.now) (λ (b : Bearing). b.height) _ c.find.result c.map.result c.map.ensures.cases (λ x n p. search rules) ∙ ap (option_map (λ (b : Bearing). b.height)) e

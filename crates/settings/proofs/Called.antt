-- A text that is none of the names calls no setting.
use Rattle.std.proofs.Common.{◌≡◌, ℕ, Bool, false, List, [], ◌∷◌, None, Err, refl, ap, inl, inr}
use Rattle.std.specs.List.{find}
use Rattle.std.specs.Option.{ok_or}
use Rattle.std.specs.Str.{bytes_eq}
use Rattle.std.proofs.lemmas.Slice.Eq.{bytes_eq-Decides}
use Rattle.std.proofs.lemmas.Bool.{cases_Bool}
use Rattle.settings.specs.declared.setting.Setting.{Setting}
use Rattle.settings.specs.Names.{name_of, called, unknown}
use Rattle.settings.specs.Ranges.{settings}

differs : (w p : List ℕ) → (w ≡ p → ⊥) → bytes_eq w p ≡ false
differs w p h = elim (cases_Bool (bytes_eq w p)) [ inl t ↦ absurd (h ((bytes_eq-Decides w p).0 t)) | inr f ↦ f ]

none_found : {X : Type 0} (p : X → Bool) → ((x : X) → p x ≡ false) → (xs : List X) → find p xs ≡ None
none_found p none [] = refl
none_found p none (x ∷ xs) = rw (none x) (none_found p none xs)

pub unnamed : (w : List ℕ) → ((s : Setting) → w ≡ name_of s → ⊥) → ok_or (called w) unknown ≡ Err unknown
unnamed w none = ap (λ o. ok_or o unknown) (none_found (λ s. bytes_eq w (name_of s)) (λ s. differs w (name_of s) (none s)) settings)

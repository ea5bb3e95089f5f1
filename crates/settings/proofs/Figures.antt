-- A figure that is taken lies in its range, and once written it leaves every figure in its range.
use Rattle.std.proofs.Common.{◌≡◌, ℕ, zero, suc, List, [], ◌∷◌, Some, None, Ok, Option, unwrap_or, is_some, true, get_or, set, refl, subst}
use Rattle.std.specs.List.{slice_get}
use Rattle.std.specs.Option.{option_map, ok_or}
use Rattle.std.proofs.lemmas.Option.{slice_get-map}
use Rattle.faults.specs.declared.fault.Fault.{Fault}
use Rattle.faults.specs.Ranges.{Within}
use Rattle.settings.specs.declared.setting.Setting.{Setting}
use Rattle.settings.specs.Entries.{nothing, Allowed}
use Rattle.settings.specs.declared.record.Settings.{Settings}
use Rattle.settings.specs.Figures.{entry, figure}
use Rattle.settings.specs.Ranges.{settings, range_of, number_of}

-- a figure in the range of the setting o, if there is one
named_allowed : (o : Option Setting) (f : Fault) (s : Setting) (v : ℕ) → Ok s ≡ ok_or o f → Within (range_of s) v →
    Within (unwrap_or (option_map range_of o) nothing) v
named_allowed None f s v is inside = cc
named_allowed (Some t) f s v is inside = let e : s ≡ t = cc in subst (λ u. Within (range_of u) v) e inside

-- a figure in the range of the setting with the number n
pub allowed : (n v : ℕ) (s : Setting) (f : Fault) → Ok s ≡ ok_or (slice_get settings n) f → Within (range_of s) v → Allowed n v
allowed n v s f is inside = rw (slice_get-map range_of settings n) (named_allowed (slice_get settings n) f s v is inside)

-- what holds of each figure that stands still does once an entry is written of which it holds
pub kept : (P : ℕ → ℕ → Type 0) (es : List (Option ℕ)) (n : ℕ) (o : Option ℕ) → ((k x : ℕ) → get_or es k None ≡ Some x → P k x) →
    ((x : ℕ) → o ≡ Some x → P n x) → (k x : ℕ) → get_or (set es n o) k None ≡ Some x → P k x
kept P [] n o h p k x e = h k x e
kept P (_ ∷ es) zero o h p zero x e = p x e
kept P (_ ∷ es) zero o h p (suc k) x e = h (suc k) x e
kept P (_ ∷ es) (suc n) o h p zero x e = h 0 x e
kept P (_ ∷ es) (suc n) o h p (suc k) x e = kept (λ i. P (suc i)) es n o (λ i. h (suc i)) p k x e

-- a figure that stands is what reading it with a default gives
stands : (o : Option ℕ) → is_some o ≡ true → o ≡ Some (unwrap_or o 0)
stands (Some x) e = refl
stands None e = cc

-- the figure of a setting that has one is in its range
pub figure_allowed : (s : Settings) (k : Setting) → is_some (entry s (number_of k)) ≡ true → Allowed (number_of k) (figure s k)
figure_allowed s k e = s.ranged (number_of k) (figure s k) (stands (entry s (number_of k)) e)

-- Sets of settings as numbers of sixteen binary digits, and the least member without a figure.
use Rattle.std.specs.Prelude.{◌≡◌, ℕ, zero, suc, ◌+◌, ◌<◌, Bool, true, cond, not, ◌&&◌, is_some, Some, None, Option, MatchOption, ◌==◌}
use Rattle.std.specs.Int.{bit_at}
use Rattle.settings.specs.declared.record.Settings.{Settings}
use Rattle.settings.specs.Figures.{entry}

-- 1 where there is a figure, else 0
abbrev pub flag : Option ℕ → ℕ
flag o = cond (is_some o) 1 0

abbrev pub has : Settings → ℕ → ℕ
has s n = flag (entry s n)

-- the setting n is in the set m
abbrev pub Member : ℕ → ℕ → Type 0
Member m n = bit_at m n ≡ 1

-- each setting of the set m has a figure
abbrev pub Present : ℕ → Settings → Type 0
Present m s = (n : ℕ) → n < 16 → Member m n → is_some (entry s n) ≡ true

-- n is the least member of the set m that has no figure
pub record Least (s : Settings) (m n : ℕ) : Type 0 where
  pub below : n < 16
  pub member : Member m n
  pub absent : entry s n ≡ None
  pub before : (k : ℕ) → k < n → Member m k → is_some (entry s k) ≡ true

-- nothing of the set m is absent, or what is answered is the least that is
abbrev pub Lowest : Settings → ℕ → Option ℕ → Type 0
Lowest s m r = MatchOption r (Present m s) (Least s m)

-- the setting n is in the set m and has no figure, as a test
abbrev pub lacking : Settings → ℕ → ℕ → Bool
lacking s m n = bit_at m n == 1 && not (is_some (entry s n))

-- the first such of the k numbers from n on
unfoldable pub first_absent : Settings → ℕ → ℕ → ℕ → Option ℕ
first_absent s m n zero = None
first_absent s m n (suc k) = cond (lacking s m n) (Some n) (first_absent s m (n + 1) k)

-- the lowest setting of the set m that has no figure, if there is one
abbrev pub lowest_absent : Settings → ℕ → Option ℕ
lowest_absent s m = first_absent s m 0 16

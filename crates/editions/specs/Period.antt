-- The period that the loads are worked with.
use Rattle.std.specs.Prelude.{◌≡◌, ℕ, ◌*◌, ◌/◌, min, true, is_some}
use Rattle.settings.specs.declared.record.Settings.{Settings}
use Rattle.settings.specs.declared.setting.Setting.TheVariants.{T, Ta, Cu}
use Rattle.settings.specs.Figures.{entry, figure}
use Rattle.settings.specs.Ranges.{number_of}

-- the smaller of T and the whole part of CU × TA ÷ 100
abbrev pub used_period : Settings → ℕ
used_period s = min (figure s T) (figure s Cu * figure s Ta / 100)

-- the three figures stand
pub record Timed (s : Settings) : Type 0 where
  pub period : is_some (entry s (number_of T)) ≡ true
  pub approximate : is_some (entry s (number_of Ta)) ≡ true
  pub coefficient : is_some (entry s (number_of Cu)) ≡ true

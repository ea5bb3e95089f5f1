-- What stands in a record of settings, and what setting one answers and writes.
use Rattle.std.specs.Prelude.{◌≡◌, ℕ, Some, None, Option, nat_eq, slice_index_or}
use Rattle.std.specs.Map.{update}
use Rattle.std.specs.Option.{unwrap_or}
use Rattle.faults.specs.declared.fault.Fault.{Fault}
use Rattle.faults.specs.declared.fault.Cause.TheVariants.{SettingUnknown, SettingRange}
use Rattle.faults.specs.declared.fault.Layer.TheVariants.{Tables}
use Rattle.faults.specs.Numbers.{fault}
use Rattle.faults.specs.Ranges.{outside}
use Rattle.settings.specs.declared.record.Settings.{Settings}
use Rattle.faults.specs.declared.range.Range.{Range}
use Rattle.settings.specs.declared.setting.Setting.{Setting}
use Rattle.settings.specs.Ranges.{number_of, range_at}
pub use Rattle.settings.specs.Entries.{nothing, Allowed, InRange, written}

-- the figure at a number, or its absence
abbrev pub entry : Settings → ℕ → Option ℕ
entry s n = slice_index_or s.entries n None

-- the figure of a setting that has one
abbrev pub figure : Settings → Setting → ℕ
figure s k = unwrap_or (entry s (number_of k)) 0

-- t has the figure v at n, and at every other number what s has
abbrev pub Sets : Settings → Settings → ℕ → ℕ → Type 0
Sets s t n v = (k : ℕ) → entry t k ≡ update nat_eq (entry s) n (Some v) k

-- why v is refused in a range of the setting n, or where there is none
abbrev pub refused : Option Range → ℕ → ℕ → Option Fault
refused None n v = Some (fault Tables SettingUnknown n)
refused (Some r) n v = outside r SettingRange n v

-- why setting n to v is refused: an unknown number, then a figure out of range; the place is the number
abbrev pub refusal : ℕ → ℕ → Option Fault
refusal n v = refused (range_at n) n v

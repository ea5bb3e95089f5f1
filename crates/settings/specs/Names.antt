-- The names of the settings.
use Rattle.std.specs.Prelude.{ℕ, List, codes, Option}
use Rattle.std.specs.List.{find}
use Rattle.std.specs.Str.{bytes_eq}
use Rattle.faults.specs.declared.fault.Cause.TheVariants.{SettingUnknown}
use Rattle.faults.specs.declared.fault.Fault.{Fault}
use Rattle.faults.specs.declared.fault.Layer.TheVariants.{Tables}
use Rattle.faults.specs.Numbers.{fault}
use Rattle.settings.specs.declared.setting.Setting.{Setting}
use Rattle.settings.specs.declared.setting.Setting.TheVariants.{R, I, T, Ta, Cu, Drift, Edge, Sds, Sd1, S1, Tl, Cd, Beta, Ca, Cv, Zn}
use Rattle.settings.specs.Ranges.{settings}

-- a setting's name, as bytes
abbrev pub name_of : Setting → List ℕ
name_of R = codes "R"
name_of I = codes "I"
name_of T = codes "T"
name_of Ta = codes "TA"
name_of Cu = codes "CU"
name_of Drift = codes "DRIFT"
name_of Edge = codes "EDGE"
name_of Sds = codes "SDS"
name_of Sd1 = codes "SD1"
name_of S1 = codes "S1"
name_of Tl = codes "TL"
name_of Cd = codes "CD"
name_of Beta = codes "BETA"
name_of Ca = codes "CA"
name_of Cv = codes "CV"
name_of Zn = codes "ZN"

-- why a text is refused that is no setting's name
abbrev pub unknown : Fault
unknown = fault Tables SettingUnknown 0

-- the setting that is called w, if there is one
abbrev pub called : List ℕ → Option Setting
called w = find (λ s. bytes_eq w (name_of s)) settings

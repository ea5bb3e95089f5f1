-- The settings in the order of their numbers, the number of each, and the range at each number.
use Rattle.std.specs.Prelude.{ℕ, ◌<◌, ◌≤◌, List, [], ◌∷◌, map, Option, MatchOption, Result}
use Rattle.std.specs.List.{slice_get}
use Rattle.std.specs.Option.{ok_or}
use Rattle.faults.specs.declared.fault.Cause.TheVariants.{SettingUnknown}
use Rattle.faults.specs.declared.fault.Fault.{Fault}
use Rattle.faults.specs.declared.fault.Layer.TheVariants.{Tables}
use Rattle.faults.specs.Numbers.{fault}
use Rattle.faults.specs.declared.range.Range.{Range}
use Rattle.faults.specs.Ranges.{◌to◌}
use Rattle.settings.specs.declared.setting.Setting.{Setting}
use Rattle.settings.specs.declared.setting.Setting.TheVariants.{R, I, T, Ta, Cu, Drift, Edge, Sds, Sd1, S1, Tl, Cd, Beta, Ca, Cv, Zn}

-- every setting, by number
abbrev pub settings : List Setting
settings = R ∷ I ∷ T ∷ Ta ∷ Cu ∷ Drift ∷ Edge ∷ Sds ∷ Sd1 ∷ S1 ∷ Tl ∷ Cd ∷ Beta ∷ Ca ∷ Cv ∷ Zn ∷ []

-- a setting's number
abbrev pub number_of : Setting → ℕ
number_of R = 0
number_of I = 1
number_of T = 2
number_of Ta = 3
number_of Cu = 4
number_of Drift = 5
number_of Edge = 6
number_of Sds = 7
number_of Sd1 = 8
number_of S1 = 9
number_of Tl = 10
number_of Cd = 11
number_of Beta = 12
number_of Ca = 13
number_of Cv = 14
number_of Zn = 15

-- a setting's range
abbrev pub range_of : Setting → Range
range_of R = 100 to 1000
range_of I = 100 to 150
range_of T = 1 to 20000
range_of Ta = 1 to 20000
range_of Cu = 100 to 200
range_of Drift = 1 to 50
range_of Edge = 0 to 1
range_of Sds = 1 to 4000
range_of Sd1 = 1 to 4000
range_of S1 = 0 to 4000
range_of Tl = 1000 to 20000
range_of Cd = 100 to 1000
range_of Beta = 1 to 100
range_of Ca = 1 to 2000
range_of Cv = 1 to 2000
range_of Zn = 0 to 1000

-- the ranges, and the range at a number
abbrev pub ranges : List Range
ranges = map range_of settings

abbrev pub range_at : ℕ → Option Range
range_at n = slice_get ranges n

-- the setting with the number n, or the fault that there is none
abbrev pub numbered : ℕ → Result Setting Fault
numbered n = ok_or (slice_get settings n) (fault Tables SettingUnknown n)

-- some figure lies in the range, and none is above 20,000
pub record Usable (r : Range) : Type 0 where
  pub ordered : r.least ≤ r.greatest
  pub bounded : r.greatest ≤ 20000

-- the sixteen numbers have ranges that can be used, and no other number has one
abbrev pub Ruled : ℕ → Option Range → Type 0
Ruled n o = MatchOption o (16 ≤ n) (λ r. (n < 16) × Usable r)

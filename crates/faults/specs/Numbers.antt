-- The number of each cause and of each layer, and the layer that each cause names.
use Rattle.std.specs.Prelude.{ℕ}
use Rattle.faults.specs.declared.fault.Cause.{Cause}
use Rattle.faults.specs.declared.fault.Cause.TheVariants.{HeightRange, WeightRange, GravityRange, LevelsFull, LevelAbsent, SettingUnknown, SettingRange, PositionRange, RigidityRange, WallsFull, WallAbsent, ForceUsedRange, DeflectionRange, NoLevels, SettingAbsent, ShearLimit, ForceUncertain, ListShort, LineMalformed, FieldMalformed}
use Rattle.faults.specs.declared.fault.Fault.{Fault}
use Rattle.faults.specs.declared.fault.Layer.{Layer}
use Rattle.faults.specs.declared.fault.Layer.TheVariants.{Tables, Sheet, Drifts, Slips, Deck}

abbrev pub layer_number : Layer → ℕ
layer_number Tables = 1
layer_number Sheet = 2
layer_number Drifts = 3
layer_number Slips = 4
layer_number Deck = 5

-- a cause's number, and its layer in a call of the layer `called`
abbrev pub numbered : Layer → Cause → ℕ × Layer
numbered called HeightRange = (1, Tables)
numbered called WeightRange = (2, Tables)
numbered called GravityRange = (3, Tables)
numbered called LevelsFull = (4, Tables)
numbered called LevelAbsent = (5, Tables)
numbered called SettingUnknown = (6, Tables)
numbered called SettingRange = (7, Tables)
numbered called PositionRange = (8, Tables)
numbered called RigidityRange = (9, Tables)
numbered called WallsFull = (10, Tables)
numbered called WallAbsent = (11, Tables)
numbered called ForceUsedRange = (12, Tables)
numbered called DeflectionRange = (13, Tables)
numbered called NoLevels = (14, Sheet)
numbered called SettingAbsent = (15, Sheet)
numbered called ShearLimit = (16, Sheet)
numbered called ForceUncertain = (17, Sheet)
numbered called ListShort = (18, called)
numbered called LineMalformed = (24, Deck)
numbered called FieldMalformed = (25, Deck)

abbrev pub cause_number : Cause → ℕ
cause_number c = (numbered Tables c).0

abbrev pub layer_of : Layer → Cause → Layer
layer_of called c = (numbered called c).1

abbrev pub fault : Layer → Cause → ℕ → Fault
fault called c p = record { cause = c; place = p; layer = layer_of called c }

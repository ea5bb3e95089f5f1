-- Why an entry by key or a removal is refused, for every kind of record.
use Rattle.std.specs.Prelude.{ℕ, cond, not, ◌&&◌, List, length, is_some, Some, None, Option, nat_le}
use Rattle.faults.specs.declared.fault.Cause.{Cause}
use Rattle.faults.specs.declared.fault.Fault.{Fault}
use Rattle.faults.specs.declared.fault.Layer.TheVariants.{Tables}
use Rattle.faults.specs.Numbers.{fault}
use Rattle.faults.specs.Ranges.{◌or_else◌}
use Rattle.tables.specs.Keys.{found}

module _ {R : Type 0} (key : R → ℕ) (c : Cause) where
  -- there are n records, and none at the key k, which is the place
  abbrev pub room_refusal : ℕ → List R → ℕ → Option Fault
  room_refusal n xs k = cond (not (is_some (found key xs k)) && nat_le n (length xs)) (Some (fault Tables c k)) None

  -- no record stands at the key k, which is the place
  abbrev pub none_refusal : List R → ℕ → Option Fault
  none_refusal xs k = cond (is_some (found key xs k)) None (Some (fault Tables c k))

  -- why entering the record x is refused: by its figures, then for want of room
  abbrev pub enter_refusal : (R → Option Fault) → ℕ → List R → R → Option Fault
  enter_refusal figure_refusal n xs x = figure_refusal x or_else room_refusal n xs (key x)

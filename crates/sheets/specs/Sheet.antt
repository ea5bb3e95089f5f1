-- The sheet: its lines and totals, why it is refused, and what the caller's list holds afterwards.
use Rattle.std.specs.Prelude.{ℕ, ◌+◌, ◌-◌, ◌*◌, ◌≤◌, cond, List, ◌++◌, map, length, drop, Some, None, Ok, Err, Option, Result, nat_lt, slice_index_or}
use Rattle.std.specs.List.{range_with_len}
use Rattle.editions.specs.declared.edition.Answers.{Answers}
use Rattle.faults.specs.declared.fault.Cause.TheVariants.{ForceUncertain, ListShort}
use Rattle.faults.specs.declared.fault.Fault.{Fault}
use Rattle.faults.specs.declared.fault.Layer.TheVariants.{Sheet}
use Rattle.faults.specs.Numbers.{fault}
use Rattle.sheets.specs.declared.bearing.Bearing.{Bearing}
use Rattle.sheets.specs.declared.line.Line.{Line}
use Rattle.sheets.specs.declared.line.Totals.{Totals}
use Rattle.sheets.specs.declared.portion.Portion.{Portion}
use Rattle.sheets.specs.Bearings.{ground, height_at}
use Rattle.sheets.specs.Shares.{portion, at_roof, force, low_share, high_share, lowest_uncertain}
use Rattle.sheets.specs.Summed.{summed}

-- answers within a sheet's limit
pub record Lawful (a : Answers) : Type 0 where
  pub shear : a.shear ≤ 1000000
  pub top : a.top ≤ a.shear
  pub exponent : a.exponent ≤ 2048

-- what is left to share after the top force
abbrev pub amount_of : Answers → ℕ
amount_of a = a.shear - a.top

-- the shear of the story under a level: the forces at and above it
abbrev pub shear : (ℕ → ℕ) → ℕ → ℕ
shear f k = summed (k + 1) f

-- the overturning moment at a level: each force above it times its height above the level
abbrev pub moment : (f h : ℕ → ℕ) → ℕ → ℕ
moment f h k = summed k (λ i. f i * (h i - h k))

-- the overturning moment at the base
abbrev pub base_moment : (f h : ℕ → ℕ) → ℕ → ℕ
base_moment f h n = summed n (λ i. f i * h i)

abbrev pub no_line : Line
no_line = record { height = 0; force = 0; low = 0; high = 0; shear = 0; moment = 0 }

-- the line of the k-th level from the roof, with the forces f
abbrev pub line_of : (f : ℕ → ℕ) → ℕ → Portion → List Bearing → ℕ → Line
line_of f top p bs k =
    record {
      height = height_at bs k;
      force = f k;
      low = low_share p (slice_index_or bs k ground) + at_roof top k;
      high = high_share p (slice_index_or bs k ground) + at_roof top k;
      shear = shear f k;
      moment = moment f (height_at bs) k;
    }

unfoldable pub lines_of : (f : ℕ → ℕ) → ℕ → Portion → List Bearing → List Line
lines_of f top p bs = map (line_of f top p bs) (range_with_len 0 (length bs))

-- why n lines are refused to a list with that room: a level whose force is uncertain, then a short list
abbrev pub refusal : Option ℕ → (n room : ℕ) → Option Fault
refusal (Some h) n room = Some (fault Sheet ForceUncertain h)
refusal None n room = cond (nat_lt room n) (Some (fault Sheet ListShort n)) None

-- why there is no sheet
abbrev pub refused : Answers → List Bearing → ℕ → Option Fault
refused a bs room = refusal (lowest_uncertain (portion (amount_of a) bs) bs) (length bs) room

abbrev pub totals : Answers → List Bearing → Totals
totals a bs = record { shear = a.shear; moment = base_moment (force (amount_of a) a.top bs) (height_at bs) (length bs) }

abbrev pub lines : Answers → List Bearing → List Line
lines a bs = lines_of (force (amount_of a) a.top bs) a.top (portion (amount_of a) bs) bs

-- an answer and a list, by why there is a refusal
abbrev pub answered : {X : Type 0} → Option Fault → X → Result X Fault
answered None t = Ok t
answered (Some f) t = Err f

abbrev pub written : {X : Type 0} → Option Fault → (new old : List X) → List X
written None new old = new
written (Some f) new old = old

-- the answer to a caller whose list has that room
abbrev pub answer : Answers → List Bearing → ℕ → Result Totals Fault
answer a bs room = answered (refused a bs room) (totals a bs)

-- the caller's list afterwards: at a refusal as it was, else the lines and then what stood beyond them
abbrev pub after : Answers → List Bearing → List Line → List Line
after a bs old = written (refused a bs (length old)) (lines a bs ++ drop (length bs) old) old

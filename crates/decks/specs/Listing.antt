-- The bytes of a listing and of a fault: numbers in decimal, fields parted by one space (32), lines ended by byte 10.
use Rattle.std.specs.Prelude.{ℕ, List, [], ◌∷◌, ◌++◌, codes}
use Rattle.text_bytes.specs.Wrote.{field}
use Rattle.faults.specs.Numbers.{cause_number, layer_number}
use Rattle.grammar.specs.declared.entry.Refusal.{Refusal}
use Rattle.sheets.specs.declared.line.Line.{Line}
use Rattle.sheets.specs.declared.line.Totals.{Totals}

-- a level's line: height, force, shear and moment
unfoldable pub line_bytes : Line → List ℕ
line_bytes l = field l.height 32 ++ (field l.force 32 ++ (field l.shear 32 ++ field l.moment 10))

unfoldable pub lines_bytes : List Line → List ℕ
lines_bytes [] = []
lines_bytes (l ∷ ls) = line_bytes l ++ lines_bytes ls

-- the base's line: 0, the base shear and the moment at the base
unfoldable pub base_bytes : Totals → List ℕ
base_bytes t = codes "BASE 0 " ++ (field t.shear 32 ++ field t.moment 10)

unfoldable pub listing : Totals → List Line → List ℕ
listing t ls = codes "LEVEL FORCE SHEAR MOMENT\n" ++ (lines_bytes ls ++ base_bytes t)

-- a fault's line: cause, place, layer and the line of the deck
unfoldable pub fault_bytes : Refusal → List ℕ
fault_bytes r =
    codes "FAULT "
    ++ (field (cause_number r.fault.cause) 32 ++ (field r.fault.place 32 ++ (field (layer_number r.fault.layer) 32 ++ field r.line 10)))

-- What a table's type says of its levels.
use Rattle.std.proofs.Common.{◌≡◌, ◌≤◌, true, List, length, get_or, arith}
use Rattle.std.proofs.Common.{◌≡◌, ◌≤◌, true, List, length, get_or, arith}
use Rattle.std.proofs.ByRecursion.{All-from_get_or}
use Rattle.std.proofs.lemmas.Bool.Decides.{nat_tests}
use Rattle.tables.specs.Keys.{Each, Rising}
use Rattle.records.specs.declared.level.Level.{Level}
use Rattle.records.specs.Level.{fits, height_of}
use Rattle.sheets.specs.Bearings.{Ranged, Standing, blank}

ranged_of : (x : Level) → fits x ≡ true → Ranged x
ranged_of x h = record { height = (grind (arith, nat_tests), grind (arith, nat_tests)); weight = (grind (arith, nat_tests), grind (arith, nat_tests)) }

pub table_stands : (xs : List Level) → Rising height_of xs → Each (λ x. fits x ≡ true) xs → length xs ≤ 64 → 1 ≤ length xs → Standing xs
table_stands xs rising fit few some =
    record {
      some = some;
      few = few;
      ranged = All-from_get_or Ranged xs blank (λ i h. ranged_of (get_or xs i blank) (fit i blank h));
      rises = λ i j lt h. rising i j blank (lt, h);
    }

-- The records of a plain table, as a list.
use Rattle.std.specs.Prelude.{ℕ, List, take}
use Rattle.tables.specs.declared.rows.Rows.{Rows}

abbrev pub rows : {R : Type 0} {n : ℕ} → Rows R n → List R
rows t = take t.count t.cells

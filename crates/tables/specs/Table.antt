-- The records of a table, as a list.
use Rattle.std.specs.Prelude.{ℕ, List}
use Rattle.tables.specs.declared.table.Table.{Table}
use Rattle.tables.specs.Rows.{rows}

abbrev pub listed : {R : Type 0} {n : ℕ} {k : _} → Table R n k → List R
listed t = rows t.rows

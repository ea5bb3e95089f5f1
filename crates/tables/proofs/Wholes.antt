-- A table's count and its cells.
use Rattle.std.proofs.Common.{◌≡◌, ℕ, ◌≤◌, List, length, arith}
use Rattle.std.proofs.lemmas.List.{length-take-le}
use Rattle.tables.specs.Cells.{Whole}

pub whole : {R : Type 0} (n count : ℕ) (cells : List R) → length cells ≡ n → count ≤ n → Whole n cells count
whole n count cells e h = (e, h, length-take-le count cells (omega arith))

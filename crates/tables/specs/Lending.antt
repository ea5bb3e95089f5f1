-- The table after one of its cells was lent.
use Rattle.std.specs.Prelude.{ℕ, ◌≤◌, List, slice_set}
use Rattle.std.proofs.Common.{sym, ◌∙◌, subst, length-set}
use Rattle.std.proofs.lemmas.List.{length-take-le}
use Rattle.tables.specs.Cells.{Whole}
use Rattle.tables.specs.declared.rows.Rows.{Rows}

-- the cells stay as many, whatever stands in one of them
pub whole_set : {R : Type 0} {n : ℕ} (cells : List R) (count i : ℕ) (x : R) → Whole n cells count → Whole n (slice_set cells i x) count
whole_set cells count i x w =
    let e = length-set cells i x ∙ w.0 in
    (e, w.1, length-take-le count (slice_set cells i x) (subst (λ (k : ℕ). count ≤ k) (sym e) w.1))

-- the table with x in cell i, and with the same count
abbrev pub with_cell : {R : Type 0} {n : ℕ} → Rows R n → ℕ → R → Rows R n
with_cell t i x = record { cells = slice_set t.cells i x; count = t.count; whole = whole_set t.cells t.count i x t.whole }

-- What it means that lo and hi enclose a power of a ratio, over whole numbers alone.
use Rattle.std.specs.Prelude.{ℕ, ◌*◌, ◌^◌, ◌≤◌}

-- lo / q ≤ (h / roof) ^ (k / n) ≤ hi / q, with the denominators multiplied out
pub record Encloses (q n k roof h lo hi : ℕ) : Type 0 where
  pub under : lo ^ n * roof ^ k ≤ q ^ n * h ^ k
  pub over : q ^ n * h ^ k ≤ hi ^ n * roof ^ k

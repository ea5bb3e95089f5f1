-- What is written into a buffer.
use Rattle.std.specs.Prelude.{◌≡◌, ℕ, ◌+◌, List, [], ◌∷◌, ◌++◌, length, take, drop, decimal}

-- xs with ys written over it from `at` on, and the rest as it was
unfoldable pub wrote : List ℕ → ℕ → List ℕ → List ℕ
wrote xs at ys = take at xs ++ (ys ++ drop (at + length ys) xs)

-- the text was written into `old` from `at` on, which gave `new`, and it ends at `end`
pub record Puts (old : List ℕ) (at : ℕ) (text new : List ℕ) (end : ℕ) : Type 0 where
  pub bytes : new ≡ wrote old at text
  pub ends : end ≡ at + length text

-- a number in decimal and then a mark
unfoldable pub field : ℕ → ℕ → List ℕ
field n mark = decimal n ++ (mark ∷ [])

-- Bytes parted by a mark: what stands before the first mark, what comes after it, and the pieces after the first.
use Rattle.std.specs.Prelude.{ℕ, Bool, true, false, cond, List, [], ◌∷◌, ◌==◌}

-- whether the mark c stands in it
abbrev pub has : ℕ → List ℕ → Bool
has c [] = false
has c (b ∷ bs) = cond (b == c) true (has c bs)

-- what stands before the first c, all of it if there is none
abbrev pub before : ℕ → List ℕ → List ℕ
before c [] = []
before c (b ∷ bs) = cond (b == c) [] (b ∷ before c bs)

-- what comes after the first c, nothing if there is none
abbrev pub after : ℕ → List ℕ → List ℕ
after c [] = []
after c (b ∷ bs) = cond (b == c) bs (after c bs)

-- the pieces between the marks, but for the first, which is `before`
abbrev pub others : ℕ → List ℕ → List (List ℕ)
others c [] = []
others c (b ∷ bs) = cond (b == c) (before c bs ∷ others c bs) (others c bs)

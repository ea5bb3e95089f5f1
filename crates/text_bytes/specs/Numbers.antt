-- Numbers of one to nine digits, leading zeros among them.
use Rattle.std.specs.Prelude.{◌≡◌, ℕ, ◌+◌, ◌-◌, ◌*◌, ◌≤◌, Bool, cond, ◌&&◌, List, [], ◌∷◌, length, Some, None, Option, nat_le}
use Rattle.std.specs.Str.Parse.{AllDigits, digits_value}

-- the text d is one to nine digits that write n
abbrev pub Number : ℕ → List ℕ → Type 0
Number n d = (1 ≤ length d) × (length d ≤ 9) × AllDigits 10 d × (digits_value 10 d ≡ n)

abbrev pub digit : ℕ → Bool
digit b = nat_le 48 b && nat_le b 57

-- the number that the digits write after those of n, if they are digits
abbrev pub read_on : ℕ → List ℕ → Option ℕ
read_on n [] = Some n
read_on n (b ∷ bs) = cond (digit b) (read_on (n * 10 + (b - 48)) bs) None

-- the number that a text writes, if it is one
abbrev pub number_in : List ℕ → Option ℕ
number_in bs = cond (nat_le 1 (length bs) && nat_le (length bs) 9) (read_on 0 bs) None

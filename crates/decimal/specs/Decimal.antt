-- Numbers as a description file writes them: document 02, R-4, ASCII digits with no leading zeros. No attribute has more than eight digits.
-- Assumes nothing.
use Rattle.std.specs.Prelude.{Bool, true, cond, not, ◌&&◌, ◌||◌, List, [], ◌∷◌, ◌++◌, ℕ, zero, suc, ◌+◌, ◌-◌, ◌*◌, ◌/◌, ◌%◌, eqb, ltb, length, get_or}
use Rattle.ground.specs.Ranges.{between, is_digit}

abbrev pub all_digits : List ℕ → Bool
all_digits [] = true
all_digits (b ∷ s) = is_digit b && all_digits s

-- one to eight digits, the first of several not 0
unfoldable pub is_number : List ℕ → Bool
is_number v = between 1 8 (length v) && (all_digits v && (eqb (length v) 1 || not (eqb (get_or v 0 0) 48)))

-- the number that digits write behind those that wrote n
abbrev pub value_from : ℕ → List ℕ → ℕ
value_from n [] = n
value_from n (b ∷ s) = value_from (n * 10 + (b - 48)) s

-- stands for a value that is no such number; it has nine digits
abbrev pub no_number : ℕ
no_number = 100000000

-- the number that a value writes
unfoldable pub number_in : List ℕ → ℕ
number_in v = cond (is_number v) (value_from 0 v) no_number

-- the last digits of n, at most k of them, no leading zeros
abbrev pub digits_by : ℕ → ℕ → List ℕ
digits_by zero n = []
digits_by (suc k) n = cond (ltb n 10) ((n + 48) ∷ []) (digits_by k (n / 10) ++ ((n % 10 + 48) ∷ []))

-- the digits of a number that has at most eight; of a longer one the last eight
unfoldable pub digits : ℕ → List ℕ
digits n = digits_by 8 n

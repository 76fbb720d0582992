-- Long division by the generator, and a search through all rows there are. They name the checks and the repair (Repair.antt), which are told there by what they are:
-- nobody needs to read how they are made, and no machine could run the search.
-- Assumes nothing.
use Rattle.std.specs.Prelude.{Bool, true, false, cond, List, [], ◌∷◌, ℕ, zero, suc, eqb, leb}
use Rattle.code.specs.Code.{add, scale, distance}

-- what a repair answers: the corrected row, or that there is none
pub data Repaired : Type 0 where
  found : List ℕ → Repaired
  none : Repaired

-- the generator's coefficients behind the leading 1
unfoldable pub lower : List ℕ
lower = 59 ∷ 13 ∷ 104 ∷ 189 ∷ 68 ∷ 209 ∷ 30 ∷ 8 ∷ 163 ∷ 65 ∷ 41 ∷ 229 ∷ 98 ∷ 50 ∷ 36 ∷ 59 ∷ []

-- what m turns of long division by the generator leave
unfoldable pub remainder : ℕ → List ℕ → List ℕ
remainder zero w = w
remainder (suc m) [] = []
remainder (suc m) (a ∷ w) = remainder m (add (scale a lower) w)

abbrev pub all_zero : List ℕ → Bool
all_zero [] = true
all_zero (x ∷ xs) = cond (eqb x 0) (all_zero xs) false

-- s leaves no remainder, and differs from r in at most eight places
unfoldable pub is_near : List ℕ → List ℕ → Bool
is_near r s = cond (leb (distance r s) 8) (all_zero (remainder 239 s)) false

abbrev pub or_else : Repaired → Repaired → Repaired
or_else (found s) o = found s
or_else none o = o

-- an answer that is not none, of f 0 to f (n - 1)
unfoldable pub first_of : ℕ → (ℕ → Repaired) → Repaired
first_of zero f = none
first_of (suc n) f = or_else (f n) (first_of n f)

-- a list that passes, of those that have n bytes before l
unfoldable pub seek : ℕ → List ℕ → (List ℕ → Bool) → Repaired
seek zero l f = cond (f l) (found l) none
seek (suc n) l f = first_of 256 (λ b. seek n (b ∷ l) f)

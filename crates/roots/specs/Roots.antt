-- The roots of a polynomial among the powers of α (document 01, section 3): byte 254 - e of a row is wrong only where the locator is 0 at α^e. The polynomial is a list
-- of coefficients, the constant first (`eval`, crate code). Assumes nothing.
use Rattle.std.specs.Prelude.{Bool, cond, List, [], ◌∷◌, ℕ, zero, suc, eqb, length, get_or, take}
use Rattle.ground.specs.Lists.{listed}
use Rattle.field.specs.Field.{power}
use Rattle.code.specs.Value.{eval}
use Rattle.roots.specs.declared.Roots.{Roots}

-- those that pass, of the n numbers from e on, in increasing order
unfoldable pub passing : (ℕ → Bool) → ℕ → ℕ → List ℕ
passing f zero e = []
passing f (suc n) e = cond (f e) (e ∷ passing f n (suc e)) (passing f n (suc e))

-- α^e is a root of v
abbrev pub is_root : List ℕ → ℕ → Bool
is_root v e = eqb (eval v (power e)) 0

-- the exponents below 255 whose powers are roots of v
unfoldable pub root_list : List ℕ → List ℕ
root_list v = passing (is_root v) 255 0

-- the first sixteen of them, and zeros behind them
unfoldable pub roots_of : List ℕ → Roots
roots_of v = record { n = length (take 16 (root_list v)); at = listed (λ k. get_or (root_list v) k 0) 16 0 }

-- The rows' cases of document 01, section 8, hold: both sides of each pair compute to one list.
-- Assumes nothing.
use mathlib.Core.Path.{◌≡◌, refl}
use mathlib.Core.List.{List, map}
use Prim.Native.Nat.{ℕ}
use Rattle.ground.specs.Bits.{sum}
use Rattle.field.specs.Field.{product, carryless, reduce}
use Rattle.code.specs.Code.{add, scale}
use Rattle.code.specs.Search.{lower, remainder}
use Rattle.code.specs.Repair.{checks_of}
use Rattle.code.specs.Cases.{row_cases}

pub row_cases_lem : map (λ (c : List ℕ × List ℕ). c.0) row_cases ≡ map (λ (c : List ℕ × List ℕ). c.1) row_cases
unfolding checks_of remainder add scale lower product carryless reduce sum
row_cases_lem = refl

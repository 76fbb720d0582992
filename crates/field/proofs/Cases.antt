-- The field's cases of document 01, section 8, hold: both sides of each pair compute to one number.
-- Assumes nothing.
use mathlib.Core.Path.{◌≡◌, refl}
use mathlib.Core.List.{map}
use Prim.Native.Nat.{ℕ}
use Rattle.ground.specs.Bits.{sum}
use Rattle.field.specs.Field.{carryless, reduce, product, expo}
use Rattle.field.specs.Cases.{field_cases}

pub field_cases_lem : map (λ (c : ℕ × ℕ). c.0) field_cases ≡ map (λ (c : ℕ × ℕ). c.1) field_cases
unfolding expo product carryless reduce sum
field_cases_lem = refl

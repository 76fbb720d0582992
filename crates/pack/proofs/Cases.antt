-- The count's case of document 01, section 8, holds: both sides of each pair compute to one number.
-- Assumes nothing.
use mathlib.Core.Path.{◌≡◌, refl}
use mathlib.Core.List.{map}
use Prim.Native.Nat.{ℕ}
use Rattle.pack.specs.Cases.{count_cases}

pub count_cases_lem : map (λ (c : ℕ × ℕ). c.0) count_cases ≡ map (λ (c : ℕ × ℕ). c.1) count_cases
count_cases_lem = refl

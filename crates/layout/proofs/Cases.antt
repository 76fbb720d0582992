-- The layout's case of document 01, section 8, holds: both sides of each pair compute to one list.
-- Assumes nothing.
use mathlib.Core.Path.{◌≡◌, refl}
use mathlib.Core.List.{List, map}
use Prim.Native.Nat.{ℕ}
use Rattle.layout.specs.Layout.{info_of, row_of}
use Rattle.layout.specs.Cases.{layout_cases}

pub layout_cases_lem : map (λ (c : List ℕ × List ℕ). c.0) layout_cases ≡ map (λ (c : List ℕ × List ℕ). c.1) layout_cases
unfolding info_of row_of
layout_cases_lem = refl

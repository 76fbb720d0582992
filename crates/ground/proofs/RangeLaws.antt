-- A number between two: the bounds, and back.
-- Assumes nothing.
use mathlib.Core.Path.{◌≡◌}
use mathlib.Core.Bool.{true}
use Prim.Native.Nat.{ℕ, ◌≤◌}
use borrow.Author.Tests.{leb-true, le-leb}
use lib.Dec.{leb}
use Rattle.std.proofs.lemmas.Bool.{and_parts}
use Rattle.ground.specs.Ranges.{between}
use Rattle.ground.proofs.Truth.{and_join}

pub between_bounds : (low high n : ℕ) → between low high n ≡ true → (low ≤ n) × (n ≤ high)
between_bounds low high n e = let w = and_parts (leb low n) (leb n high) e in (leb-true low n w.0, leb-true n high w.1)

pub bounds_between : (low high n : ℕ) → low ≤ n → n ≤ high → between low high n ≡ true
bounds_between low high n l h = and_join (le-leb low n l) (le-leb n high h)

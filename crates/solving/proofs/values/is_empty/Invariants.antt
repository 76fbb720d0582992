-- `values::is_empty` looks at one entry after the other: those before j - n are 0.
-- Assumes nothing.
use mathlib.Core.Path.{◌≡◌}
use Prim.Native.Nat.{ℕ, ◌+◌, ◌<◌}
use Rattle.field.specs.Words.{entry}
use Rattle.solving.proofs.values.is_empty.Given as goal

abbrev pub invariant-loop-j : goal.invariant-loop-j
invariant-loop-j l = (i : ℕ) → l.n + i < l.j → entry l.left i ≡ 0

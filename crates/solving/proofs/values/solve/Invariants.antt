-- `values::solve`: each turn shifts one place out (`Turning`); what was gathered over the gaps gives the first syndromes, and what is left tells of the others.
-- Assumes nothing.
use mathlib.Core.List.{List}
use Prim.Native.Nat.{ℕ}
use Rattle.errata.specs.InnerValues.{Located}
use Rattle.solving.proofs.Turning.{Turning}
use Rattle.solving.proofs.values.solve.Given as goal

abbrev pub invariant-loop-j : goal.invariant-loop-j
invariant-loop-j l = (at : List ℕ) → Located at l.x → Turning at l.initial.left l.left l.gathered l.gaps l.j

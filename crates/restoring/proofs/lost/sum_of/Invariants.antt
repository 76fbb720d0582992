-- Invariant: the sum of the bytes before is these bytes as a row at 1.
-- Assumes nothing.
use mathlib.Core.Path.{◌≡◌}
use lib.ListN.{take}
use Rattle.code.specs.Value.{value}
use Rattle.restoring.proofs.lost.sum_of.Given as goal

abbrev pub invariant-loop-b : goal.invariant-loop-b
invariant-loop-b l = l.acc ≡ value (take l.b-index l.row) 1

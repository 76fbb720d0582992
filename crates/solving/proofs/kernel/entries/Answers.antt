-- The bytes of the first word and the one of the second are all nine (`nine-written`).
-- Assumes nothing.
use native.Mathlib.Omega.{arith}
use Rattle.errata.proofs.Vectors.{nine-written}
use Rattle.solving.proofs.kernel.entries.Goals as goal

pub returns : goal.returns
returns c = let front = c.loop-k.invariant in nine-written _ _ c.loop-k.out front.sized front.written (omega arith) c.byte-2.ensures

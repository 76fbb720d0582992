-- All sixteen entries are written (`list_is`).
-- Assumes nothing.
use native.Mathlib.Omega.{arith}
use Rattle.errata.proofs.Entries.{list_is}
use Rattle.solving.proofs.lanes.bytes.Goals as goal

pub returns : goal.returns
returns c = let front = c.loop-k.invariant in list_is _ _ front.sized (λ i h. front.written i (omega arith))

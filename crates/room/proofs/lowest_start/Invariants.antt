-- `room::lowest_start` meets its contract: 0 is the lowest start if it is free; if not, the lowest is the end of a place in use, and
-- the loop keeps the lowest free one of the ends that it passed, or a number past the end of the usable store.
-- Assumes nothing.
use Rattle.places.proofs.Candidates.{Best}
use Rattle.room.proofs.lowest_start.Given as goal

abbrev pub invariant-loop-p : goal.invariant-loop-p
invariant-loop-p l = Best l.n l.size l.held.places l.p-index l.best

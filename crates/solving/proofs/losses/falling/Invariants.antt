-- `losses::falling` looks at one place after the other: those before place k fell, and `last` is the one before it.
-- Assumes nothing.
use Rattle.errata.proofs.Places.{Descending}
use Rattle.solving.proofs.losses.falling.Given as goal

abbrev pub invariant-loop-a : goal.invariant-loop-a
invariant-loop-a l = Descending l.fn.at l.n l.a-index l.last

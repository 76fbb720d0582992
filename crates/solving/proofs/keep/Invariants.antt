-- `keep` takes one place after the other.
-- Assumes nothing.
use Rattle.errata.proofs.Keeping.{Keeping}
use Rattle.solving.proofs.keep.Given as goal

abbrev pub invariant-loop-k : goal.invariant-loop-k
invariant-loop-k l = Keeping l.at l.values l.n l.k l.out

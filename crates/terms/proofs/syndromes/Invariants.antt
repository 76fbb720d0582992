-- `terms::syndromes` takes one bit of each byte after the other, the highest first (`Coming`).
-- Assumes nothing.
use Rattle.terms.proofs.Summing.{Coming}
use Rattle.terms.proofs.syndromes.Given as goal

abbrev pub invariant-loop-i : goal.invariant-loop-i
invariant-loop-i l = Coming l.rest l.s l.i

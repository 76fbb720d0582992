-- One place a turn. Invariant: the values of the first k places are put in.
-- Assumes nothing.
use Rattle.columns.proofs.Putting.{Puts}
use Rattle.restoring.proofs.lost.put_lost.Given as goal

abbrev pub invariant-loop-k : goal.invariant-loop-k
invariant-loop-k l = Puts l.m l.n l.base l.at l.values l.lost l.initial.out l.out l.k

-- One row a turn. Invariant: the lost bytes of the rows below q are put in.
-- Assumes nothing.
use Rattle.columns.specs.InnerBytes.{aim_of, LostBelow, Nearer}
use Rattle.restoring.proofs.lost.restore_rows.Given as goal

abbrev pub invariant-loop-q : goal.invariant-loop-q
invariant-loop-q l = Nearer (aim_of l.p l.store) l.n (LostBelow l.p l.store l.q) l.initial.out l.out

-- One slot a turn, to the first that is filled and has another length than it should. Invariant, `Fitting`: the slots from k on say what all say, and `left` of what was sent stands there.
use Rattle.columns.specs.Columns.{sent_length}
use Rattle.columns.proofs.LengthLaws.{Fitting}
use Rattle.weighing.proofs.lengths.lengths_fit.Given as goal

abbrev pub invariant-loop-k : goal.invariant-loop-k
invariant-loop-k l = Fitting l.p l.store (sent_length l.p.rows l.n) l.left l.k

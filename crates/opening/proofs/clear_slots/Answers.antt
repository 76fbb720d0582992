-- One slot more is cleared; when all are, nothing is left to clear.
use Rattle.opening.proofs.ClearLaws.{cleared_more, cleared_done}
use Rattle.opening.proofs.clear_slots.Goals as goal

pub loop-k-preserved : goal.loop-k-preserved
loop-k-preserved c = let a = c.args in cleared_more _ _ a.start _ a.count a.width c.loop-k.invariant c.loop-k-test.true

pub returns : goal.returns
returns c = let a = c.args in cleared_done _ _ a.start _ a.count a.width c.loop-k.invariant c.loop-k-test.false

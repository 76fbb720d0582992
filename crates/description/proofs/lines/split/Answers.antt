-- Nothing is found at the start; each turn finds one line more, or that none is there.
-- Assumes nothing.
use Rattle.description.proofs.SplitLaws.{splitting_begin, splitting_stop, splitting_more}
use Rattle.description.proofs.lines.split.Goals as goal

pub loop-k-init : goal.loop-k-init
loop-k-init c = splitting_begin _

pub returns-in_default : goal.returns-in_default
returns-in_default c = splitting_stop _ _ _ _ c.loop-k.invariant c.loop-k-test.true c.in_default.ensures

pub loop-k-preserved : goal.loop-k-preserved
loop-k-preserved c = splitting_more _ _ _ _ c.loop-k.invariant c.loop-k-test.true _ _ c.in-Some.ensures

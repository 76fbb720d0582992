-- One step takes one byte from what is left.
use Rattle.texts.proofs.Utf8Laws.{reading_more}
use Rattle.texts.proofs.well_formed.Goals as goal

pub loop-b-preserved : goal.loop-b-preserved
loop-b-preserved c = reading_more _ _ _ _ _ c.loop-b.invariant _ _ _ c.loop-b-test.true c.step-wait.ensures

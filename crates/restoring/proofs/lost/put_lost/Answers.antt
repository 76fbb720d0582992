-- The value of place k is put in behind those before it.
-- Assumes nothing.
use Rattle.columns.proofs.Putting.{puts_first, puts-more}
use Rattle.restoring.proofs.lost.put_lost.Goals as goal

pub loop-k-init : goal.loop-k-init
loop-k-init c = puts_first _ _ _ _ _ _ _

pub loop-k-preserved : goal.loop-k-preserved
loop-k-preserved c = puts-more _ _ _ _ _ _ _ _ _ c.loop-k.invariant c.loop-k-test.true _ c.put_byte.ensures

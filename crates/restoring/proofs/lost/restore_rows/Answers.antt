-- The row written is the next of those that are put in.
use Rattle.columns.proofs.Recovering.{lost-more}
use Rattle.restoring.proofs.lost.restore_rows.Goals as goal

pub loop-q-preserved : goal.loop-q-preserved
loop-q-preserved c = lost-more _ _ _ _ _ _ _ c.loop-q.invariant c.restore_row.ensures

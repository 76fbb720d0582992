-- A byte more is a row at 1 longer by it.
-- Assumes nothing.
use Rattle.ground.specs.Bits.{sum}
use Rattle.columns.proofs.Missing.{sum_first, sum_more}
use Rattle.restoring.proofs.lost.sum_of.Goals as goal

pub loop-b-init : goal.loop-b-init
loop-b-init c = sum_first c.args.row.now

pub loop-b-preserved : goal.loop-b-preserved
unfolding sum
loop-b-preserved c =
    let l = c.loop-b in
    sum_more _ l.b-index l.acc c.loop-b-test.true (c.type_inv.row l.b-index).fits l.invariant

-- One row more has its information; with the checks behind each they are the file's rows.
use Rattle.filling.proofs.Gathering.{filling_more, filling_done}
use Rattle.filling.proofs.fill.Goals as goal

pub loop-r-preserved : goal.loop-r-preserved
loop-r-preserved c = filling_more _ _ _ _ _ _ c.loop-r.invariant _ c.loop-r-test.true c.gather.ensures

pub returns : goal.returns
returns c = filling_done _ _ _ _ _ _ c.loop-r.invariant _ c.loop-r-test.false c.put_checks.ensures

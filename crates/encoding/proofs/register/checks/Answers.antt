-- Behind the last eight bytes nothing is left to feed, so that the register holds what the whole gives.
-- Assumes nothing.
use Rattle.encoding.proofs.Feeding.{feeding_done}
use Rattle.encoding.proofs.register.checks.Goals as goal

pub returns : goal.returns
returns c = feeding_done _ _ _ _ c.loop-k-test.false c.loop-k.invariant

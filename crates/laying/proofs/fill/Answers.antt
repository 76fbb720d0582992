-- One run more is written; when n bytes are, they are what was to be written.
use native.Mathlib.Omega.{arith}
use Rattle.laying.proofs.Parting.{part-more, part-done}
use Rattle.laying.proofs.fill.Goals as goal

pub loop-x-preserved : goal.loop-x-preserved
loop-x-preserved c =
    part-more _ _ _ _ _ _ c.loop-x.invariant _ _ (omega (arith, c.put_run-x.ensures.1)) c.put_run-x.ensures.2

pub returns : goal.returns
returns c = part-done _ _ _ _ _ _ c.loop-x.invariant c.loop-x-test.false

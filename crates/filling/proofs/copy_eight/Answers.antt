-- One byte is written after the other.
use mathlib.Core.Path.{refl}
use Rattle.ground.proofs.Writing.{run_step}
use Rattle.filling.proofs.copy_eight.Goals as goal

pub loop-c-preserved : goal.loop-c-preserved
loop-c-preserved c = run_step _ _ _ _ _ _ c.loop-c.invariant _ c.loop-c-test.true refl

-- From no coefficient moved to the last that is not 0.
-- Assumes nothing.
use native.Mathlib.Omega.{arith}
use Rattle.roots.proofs.Moving.{moving_start, moving_more, moving_end, seventh}
use Rattle.roots.proofs.products.move_on.Goals as goal

pub loop-i-init : goal.loop-i-init
loop-i-init c = moving_start _ c.requires.1.sized

pub loop-i-preserved : goal.loop-i-preserved
loop-i-preserved c =
    moving_more c.loop-i.invariant c.requires.1.sized (omega (arith, c.requires.0)) _ c.word-w.ensures _ (seventh _)

pub returns : goal.returns
returns c =
    moving_end c.loop-i.invariant (omega arith) c.requires.1

-- From nothing added to all eight bits.
-- Assumes nothing.
use native.Mathlib.Omega.{arith}
use Rattle.field.proofs.Walking.{adding_start, adding_step, adding_end, both_words}
use Rattle.field.proofs.products.Goals as goal

pub loop-i-init : goal.loop-i-init
loop-i-init c = (adding_start _ _, adding_start _ _)

pub loop-i-preserved : goal.loop-i-preserved
loop-i-preserved c =
    let inv = c.loop-i.invariant in (
      adding_step inv.0 (omega arith) _ _ c.take-low.ensures c.doubles-x.ensures,
      adding_step inv.1 (omega arith) _ _ c.take-high.ensures c.doubles-y.ensures,
    )

pub returns : goal.returns
returns c =
    let inv = c.loop-i.invariant in
    both_words _ _ _ inv.0.word inv.1.word (adding_end inv.0 (omega arith)) (adding_end inv.1 (omega arith))

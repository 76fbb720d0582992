-- What each slot adds, by whether its length differs from the one that it should have.
use native.Mathlib.Omega.{arith}
use Rattle.contents.specs.Contents.{slot_at}
use Rattle.columns.proofs.LengthLaws.{fitting_end, fitting_not, fitting_next}
use Rattle.weighing.proofs.lengths.lengths_fit.Goals as goal

pub returns-then-differs : goal.returns-then-differs
unfolding slot_at
returns-then-differs c =
    fitting_not _ _ _ _ _ c.loop-k.invariant c.requires.right (omega arith) _ _ c.lesser-full.ensures c.slot_length.ensures _ c.differs.ensures c.if-differs.true

pub loop-k-preserved : goal.loop-k-preserved
unfolding slot_at
loop-k-preserved c =
    fitting_next _ _ _ _ _ c.loop-k.invariant c.requires.right (omega arith) _ _ c.lesser-full.ensures c.slot_length.ensures _ c.differs.ensures c.if-differs.false

pub returns : goal.returns
returns c = fitting_end _ _ _ _ _ c.loop-k.invariant (omega arith)

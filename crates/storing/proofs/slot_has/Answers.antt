-- Its two tests are the definition's, in its order.
-- Assumes nothing.
use native.Mathlib.Omega.{arith}
use borrow.Author.Tests.{lt-leb, le-leb}
use Rattle.storing.proofs.slot_has.Goals as goal

pub overflow_cast-p : goal.overflow_cast-p
overflow_cast-p c = omega arith

pub overflow_add-p : goal.overflow_add-p
overflow_add-p c = omega arith

pub overflow_add-at : goal.overflow_add-at
overflow_add-at c = omega arith

pub returns-then-size-at : goal.returns-then-size-at
returns-then-size-at c = rw (lt-leb _ _ c.if-size-at.true)

pub overflow_cast-result : goal.overflow_cast-result
overflow_cast-result c = omega arith

pub returns : goal.returns
returns c = rw (le-leb _ _ c.if-size-at.false)

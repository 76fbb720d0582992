-- `room::free::is_clear` meets its contract: it takes the definition's three tests in their order.
-- Assumes nothing.
use borrow.Author.Tests.{eq-eqb, ne_eqb, le-leb, lt-leb}
use Rattle.places.specs.Room.{clear}
use Rattle.room.proofs.free.is_clear.Goals as goal

pub returns-then-p-eq0 : goal.returns-then-p-eq0
unfolding clear
returns-then-p-eq0 c = simp (eq-eqb _ _ c.if-p-eq0.true)

pub returns-then-end_of-s : goal.returns-then-end_of-s
unfolding clear
returns-then-end_of-s c =
    simp (ne_eqb _ _ c.if-p-eq0.false, le-leb _ _ (rw c.end_of.ensures at c.if-end_of-s.true))

pub returns : goal.returns
unfolding clear
returns c =
    simp (
      ne_eqb _ _ c.if-p-eq0.false,
      lt-leb _ _ (rw c.end_of.ensures at c.if-end_of-s.false),
    )

-- `edition::spare_of` meets its contract: its one test is the definition's.
-- Assumes nothing.
use borrow.Author.Tests.{eq-eqb, ne_eqb}
use Rattle.packet.specs.Edition.{spare_of}
use Rattle.edition.proofs.spare_of.Goals as goal

pub returns-then-edition-eq1 : goal.returns-then-edition-eq1
unfolding spare_of
returns-then-edition-eq1 c = rw (eq-eqb _ _ c.if-edition-eq1.true)

pub returns : goal.returns
unfolding spare_of
returns c = rw (ne_eqb _ _ c.if-edition-eq1.false)

-- `edition::is_of` meets its contract: it compares with what the edition writes, in the definition's order.
-- Assumes nothing.
use borrow.Author.Tests.{eq-eqb, ne_eqb}
use Rattle.packet.specs.Edition.{is_of}
use Rattle.edition.proofs.is_of.Goals as goal

pub returns-then-fields-spare : goal.returns-then-fields-spare
unfolding is_of
returns-then-fields-spare c = rw (← c.spare_of-spare.ensures, ne_eqb _ _ c.if-fields-spare.true)

pub returns-then-fields-ne0 : goal.returns-then-fields-ne0
unfolding is_of
returns-then-fields-ne0 c =
    rw (
      ← c.spare_of-spare.ensures,
      eq-eqb _ _ c.if-fields-spare.false,
      ne_eqb _ _ c.if-fields-ne0.true,
    )

pub returns-else-fields-ne0 : goal.returns-else-fields-ne0
unfolding is_of
returns-else-fields-ne0 c =
    rw (
      ← c.spare_of-spare.ensures,
      eq-eqb _ _ c.if-fields-spare.false,
      eq-eqb _ _ c.if-fields-ne0.false,
    )

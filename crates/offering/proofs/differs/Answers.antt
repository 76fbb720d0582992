-- The fields are compared in the definition's order.
use borrow.Author.Tests.{eq-eqb, ne_eqb}
use Rattle.record.specs.Offer.{differs}
use Rattle.offering.proofs.differs.Goals as goal

pub returns-then-fields-p : goal.returns-then-fields-p
unfolding differs
returns-then-fields-p c = rw (ne_eqb _ _ c.if-fields-p.true)

pub returns-then-fields-p-2 : goal.returns-then-fields-p-2
unfolding differs
returns-then-fields-p-2 c = rw (eq-eqb _ _ c.if-fields-p.false, ne_eqb _ _ c.if-fields-p-2.true)

pub returns-then-fields-p-3 : goal.returns-then-fields-p-3
unfolding differs
returns-then-fields-p-3 c = rw (eq-eqb _ _ c.if-fields-p.false, eq-eqb _ _ c.if-fields-p-2.false, ne_eqb _ _ c.if-fields-p-3.true)

pub returns-then-fields-eq1 : goal.returns-then-fields-eq1
unfolding differs
returns-then-fields-eq1 c =
    rw (eq-eqb _ _ c.if-fields-p.false, eq-eqb _ _ c.if-fields-p-2.false, eq-eqb _ _ c.if-fields-p-3.false, eq-eqb _ _ c.if-fields-eq1.true)

pub returns-else-fields-eq1 : goal.returns-else-fields-eq1
unfolding differs
returns-else-fields-eq1 c =
    rw (eq-eqb _ _ c.if-fields-p.false, eq-eqb _ _ c.if-fields-p-2.false, eq-eqb _ _ c.if-fields-p-3.false, ne_eqb _ _ c.if-fields-eq1.false)

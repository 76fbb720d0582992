-- The place's order says which of the two readings is asked for.
use borrow.Author.Tests.{eq-eqb, ne_eqb}
use Rattle.offering.proofs.read_at.Goals as goal

pub returns-then-p-eq1 : goal.returns-then-p-eq1
returns-then-p-eq1 c = rw (eq-eqb _ _ c.if-p-eq1.true) c.read_header.ensures

pub returns : goal.returns
returns c = rw (ne_eqb _ _ c.if-p-eq1.false) c.read_fields.ensures

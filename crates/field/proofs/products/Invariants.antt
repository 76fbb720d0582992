-- `field::products` doubles one factor and adds it where the other has a bit, in both words (`Adding`).
-- Assumes nothing.
use Rattle.field.proofs.Walking.{Adding}
use Rattle.field.proofs.products.Given as goal

abbrev pub invariant-loop-i : goal.invariant-loop-i
invariant-loop-i l = Adding l.initial.x l.b.low l.x l.low l.i × Adding l.initial.y l.b.high l.y l.high l.i

-- `roots::products::move_on` moves one coefficient after the other (`Moving`).
-- Assumes nothing.
use Rattle.roots.proofs.Moving.{Moving}
use Rattle.roots.proofs.products.move_on.Given as goal

abbrev pub invariant-loop-i : goal.invariant-loop-i
invariant-loop-i l = Moving l.initial.t l.t l.sum l.i

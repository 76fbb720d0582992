-- `roots::products::wide` copies one coefficient after the other (`Copied`).
-- Assumes nothing.
use Rattle.roots.proofs.Moving.{Copied}
use Rattle.roots.proofs.products.wide.Given as goal

abbrev pub invariant-loop-i : goal.invariant-loop-i
invariant-loop-i l = Copied l.v l.t l.i

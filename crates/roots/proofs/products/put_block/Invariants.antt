-- `roots::products::put_block` puts one word after the other (`Added`).
-- Assumes nothing.
use Rattle.roots.specs.InnerWords.{Added}
use Rattle.roots.proofs.products.put_block.Given as goal

abbrev pub invariant-loop-j : goal.invariant-loop-j
invariant-loop-j l = Added l.j l.n l.at l.w l.initial.t l.t

-- `roots::products::table` puts the words of one coefficient after the other (`Making`), from the constant, whose rule is computed.
-- Assumes nothing.
use Rattle.roots.specs.InnerWords.{Words}
use Rattle.roots.proofs.Constant.{Points}
use Rattle.roots.proofs.products.table.Given as goal

abbrev pub invariant-loop-i : goal.invariant-loop-i
invariant-loop-i l = Words l.i l.t × Points l.points

-- `roots::search::look_each` looks at one byte after the other (`Looking`).
-- Assumes nothing.
use Rattle.roots.proofs.Holding.{Looking}
use Rattle.roots.proofs.search.look_each.Given as goal

abbrev pub invariant-loop-k : goal.invariant-loop-k
invariant-loop-k l = Looking l.w l.y l.e l.n l.initial.at l.m l.at l.k

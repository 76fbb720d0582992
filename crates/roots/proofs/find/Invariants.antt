-- `roots::find` tries exponent 0, and then eight exponents a turn (`Finding`).
-- Assumes nothing.
use Rattle.roots.proofs.Finding.{Finding}
use Rattle.roots.proofs.find.Given as goal

abbrev pub invariant-loop-b : goal.invariant-loop-b
invariant-loop-b l = Finding l.initial.t l.first l.top l.n l.at l.t l.b

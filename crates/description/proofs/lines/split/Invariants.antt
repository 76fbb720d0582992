-- Line by line, until one is missing or all fifteen are there. Invariant: what was found stands before what is still found (`Splitting`).
-- Assumes nothing.
use Rattle.description.proofs.SplitLaws.{Splitting}
use Rattle.description.proofs.lines.split.Given as goal

abbrev pub invariant-loop-k : goal.invariant-loop-k
invariant-loop-k l = Splitting l.text l.parts l.k l.at

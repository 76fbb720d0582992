-- `fill` writes the information of one row after the other, and has the checks put behind each. The invariant: the rows so far have their information (`Filling`).
-- Assumes nothing.
use Rattle.filling.proofs.Gathering.{Filling}
use Rattle.filling.proofs.fill.Given as goal

abbrev pub invariant-loop-r : goal.invariant-loop-r
invariant-loop-r l = Filling l.file l.m l.at l.n l.rows l.r

-- One column a turn. Invariant: all columns before c are gathered, and s is where column c stands.
use Rattle.losses.specs.InnerRuns.{Stands}
use Rattle.losses.proofs.runs.take_columns.Given as goal

abbrev pub invariant-loop-c : goal.invariant-loop-c
invariant-loop-c l = Stands l.p l.store l.first l.s.slot l.s.byte l.c l.lost l.row l.at

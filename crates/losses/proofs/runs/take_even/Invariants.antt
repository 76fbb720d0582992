-- One column a turn, `step` slots on. Invariant: all columns before c are gathered, and column c is byte `byte` of slot k.
use Rattle.losses.specs.InnerRuns.{Stands}
use Rattle.losses.proofs.runs.take_even.Given as goal

abbrev pub invariant-loop-c : goal.invariant-loop-c
invariant-loop-c l = Stands l.p l.store l.first l.k l.byte l.c l.lost l.row l.at

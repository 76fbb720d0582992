-- The columns are noted m bytes apart. Invariant, `NotingRun`: those from c to x stand before `end`, and are told.
use Rattle.losses.proofs.Walking.{NotingRun}
use Rattle.losses.proofs.runs.note_run.Given as goal

abbrev pub invariant-loop-x : goal.invariant-loop-x
invariant-loop-x l = NotingRun l.first l.m l.end l.c l.lost l.initial.at l.at l.x

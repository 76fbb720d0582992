-- The first line that does not fit is the lowest. Invariant: the lines passed fit, so that what is left says what all say.
use Rattle.judging.proofs.LowestLaws.{Sound}
use Rattle.judging.proofs.lowest_fault.Given as goal

abbrev pub invariant-loop-i : goal.invariant-loop-i
invariant-loop-i l = Sound l.fit-items l.i

-- Each byte is looked at, and none ends the loop. Invariant: no break was met so far, and there is none in what is left, says what all says.
use Rattle.texts.proofs.BreakLaws.{Passing}
use Rattle.texts.proofs.unbroken.Given as goal

abbrev pub invariant-loop-b : goal.invariant-loop-b
invariant-loop-b l = Passing l.bytes l.so_far l.b-index

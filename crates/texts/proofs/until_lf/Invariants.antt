-- The bytes are looked at one after the other, to the first LF. Invariant: what stands before the first LF of what is left, behind the bytes passed, is what
-- stands before the first of all.
use Rattle.texts.proofs.BreakLaws.{Seeking}
use Rattle.texts.proofs.until_lf.Given as goal

abbrev pub invariant-loop-i : goal.invariant-loop-i
invariant-loop-i l = Seeking l.bytes l.i

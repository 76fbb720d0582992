-- Bytes that are not one to eight, or start with a 0 and are several, write no number; nor do those among which one is no digit. Else each digit is
-- added behind those before it.
-- Invariant: what is left, read behind the value so far, says what all the bytes say, `Reading`.
use Rattle.decimal.proofs.ReadLaws.{Reading}
use Rattle.decimal.proofs.number_in.Given as goal

abbrev pub invariant-loop-b : goal.invariant-loop-b
invariant-loop-b l = Reading l.bytes l.value l.b-index

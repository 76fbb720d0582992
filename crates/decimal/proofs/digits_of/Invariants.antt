-- The digits are counted, then written from the last to the first, each the remainder by ten of what is left of the number.
-- Invariant: what is left to write makes what all the digits make, `Writing`.
use Rattle.decimal.proofs.WriteLaws.{Writing}
use Rattle.decimal.proofs.digits_of.Given as goal

abbrev pub invariant-loop-i : goal.invariant-loop-i
invariant-loop-i l = Writing l.n l.bytes l.rest l.i

-- `register::checks` feeds the register word by word. The invariant: what is left to feed gives what the whole gives (`Feeding`).
-- Assumes nothing.
use Rattle.encoding.specs.InnerRegister.{both, Feeding}
use Rattle.encoding.proofs.register.checks.Given as goal

abbrev pub invariant-loop-k : goal.invariant-loop-k
invariant-loop-k l = Feeding l.d l.at (both l.r.h l.r.l) l.k

-- `register::seal_two` feeds two registers, each as `checks` feeds one, and writes what they hold. The invariant: what is left to feed gives what the whole gives, in both
-- (`Feeding`). Assumes nothing.
use Rattle.encoding.specs.InnerRegister.{both, Feeding}
use Rattle.encoding.proofs.register.seal_two.Given as goal

abbrev pub invariant-loop-k : goal.invariant-loop-k
invariant-loop-k l = Feeding l.d l.at (both l.a.h l.a.l) l.k × Feeding l.d l.from (both l.b.h l.b.l) l.k

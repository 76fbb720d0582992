-- `kernel::null_vector` keeps each vector at a run of its own, which does not annihilate it; there are eight runs, so that one of nine passes them all. Each turn a vector
-- goes one run on, or one vector more is kept and the next begins one run before.
-- Assumes nothing.
use Prim.Native.Nat.{◌+◌, ◌-◌, ◌*◌}
use Rattle.ground.specs.Lists.{listed}
use Rattle.field.specs.Words.{entry}
use Rattle.errata.specs.InnerNull.{in_two}
use Rattle.solving.proofs.Turns.{Keeping}
use Rattle.solving.proofs.kernel.null_vector.Given as goal

abbrev pub invariant-loop-i : goal.invariant-loop-i
invariant-loop-i l = Keeping (listed (entry (in_two l.initial.v.first l.initial.v.last)) 16 0) l.kept l.pivots l.v l.i l.l

abbrev pub decreases-loop-i : goal.decreases-loop-i
decreases-loop-i l = (9 - l.l) * 10 + (8 - l.i)

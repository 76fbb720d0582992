-- One chunk a turn. Invariant, `Copying`: what came of the first f bytes is written. The measure is how many bytes are left.
-- Assumes nothing.
use Prim.Native.Nat.{◌-◌}
use Rattle.columns.proofs.Coming.{Copying}
use Rattle.restoring.proofs.write.write_known.Given as goal

abbrev pub invariant-loop-f : goal.invariant-loop-f
invariant-loop-f l = Copying l.p l.store l.n l.initial.out l.out l.f

abbrev pub decreases-loop-f : goal.decreases-loop-f
decreases-loop-f l = l.n - l.f

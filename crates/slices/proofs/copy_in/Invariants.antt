-- The bytes that the store has room for are written one after the other. Invariant: the store is a run of the first i of them, `Run`.
use lib.ListN.{get_or}
use Rattle.ground.proofs.Writing.{Run}
use Rattle.slices.proofs.copy_in.Given as goal

abbrev pub invariant-loop-i : goal.invariant-loop-i
invariant-loop-i l = Run (λ k. get_or l.bytes k 0) l.n l.at l.initial.store l.store l.i

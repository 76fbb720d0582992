-- `gather` writes eight bytes at a time while they lie within the file, and leaves the rest to `copy_padded`. The invariant: what is left to write makes what the whole
-- makes (`Run`). Assumes nothing.
use Prim.Native.Nat.{◌+◌, ◌*◌}
use lib.ListN.{get_or}
use Rattle.ground.proofs.Writing.{Run}
use Rattle.filling.proofs.gather.Given as goal

abbrev pub invariant-loop-k : goal.invariant-loop-k
invariant-loop-k l = Run (λ j. get_or l.file (l.at + j * l.m) 0) 239 l.o l.initial.out l.out (l.k * 8)

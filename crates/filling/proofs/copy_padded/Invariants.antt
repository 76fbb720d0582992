-- `copy_padded` writes one byte after the other. The invariant: what is left to write makes what the whole makes (`Run`).
-- Assumes nothing.
use Prim.Native.Nat.{◌+◌, ◌*◌}
use lib.ListN.{get_or}
use Rattle.ground.proofs.Writing.{Run}
use Rattle.filling.proofs.copy_padded.Given as goal

abbrev pub invariant-loop-c : goal.invariant-loop-c
invariant-loop-c l = Run (λ j. get_or l.file (l.at + j * l.m) 0) l.n l.o l.initial.out l.out l.c

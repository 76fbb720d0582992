-- `strew` writes one byte after the other, each m behind the last. The invariant: k of them are written, and nothing beside them (`Strewing`).
-- Assumes nothing.
use Prim.Native.Nat.{◌+◌}
use lib.ListN.{get_or}
use Rattle.laying.proofs.Strewing.{Strewing}
use Rattle.laying.proofs.strew.Given as goal

abbrev pub invariant-loop-q : goal.invariant-loop-q
invariant-loop-q l = Strewing (λ k. get_or l.row (l.c + k) 0) l.m l.n l.o l.initial.out l.out l.q

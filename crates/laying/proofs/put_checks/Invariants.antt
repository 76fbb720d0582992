-- `put_checks` writes the bytes of one row after the other, of as many rows as have one. The invariant: those of the rows so far stand where they belong (`Sown`).
-- Assumes nothing.
use Prim.Native.Nat.{◌+◌}
use Rattle.laying.specs.InnerLay.{table_byte}
use Rattle.laying.proofs.Strewing.{Sown}
use Rattle.laying.proofs.put_checks.Given as goal

abbrev pub invariant-loop-i : goal.invariant-loop-i
invariant-loop-i l = Sown (λ x. table_byte l.m l.file l.t (l.p + x)) l.m l.n l.o l.initial.out l.out l.i

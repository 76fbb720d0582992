-- `fill` writes one run behind the other. The invariant: what is left to write makes what the whole makes (`Run`).
-- Assumes nothing.
use Prim.Native.Nat.{◌+◌, ◌-◌}
use Rattle.ground.proofs.Writing.{Run}
use Rattle.laying.specs.InnerLay.{sent_byte}
use Rattle.laying.proofs.fill.Given as goal

abbrev pub invariant-loop-x : goal.invariant-loop-x
invariant-loop-x l = Run (λ k. sent_byte l.m l.file (l.from + k)) l.n 0 l.initial.out l.out l.x

abbrev pub decreases-loop-x : goal.decreases-loop-x
decreases-loop-x l = l.n - l.x

-- Eight bytes more are written, and behind them all that are left.
use native.Mathlib.Omega.{arith}
use Prim.Native.Nat.{◌*◌}
use Rattle.filling.proofs.Gathering.{before, eight_more, row-gathered}
use Rattle.filling.proofs.gather.Goals.{then-at-m, else-at-m}
use Rattle.filling.proofs.gather.Goals as goal

pub copy_eight-requires : goal.copy_eight-requires
copy_eight-requires c =
    elim c.if-at-m.branch [
      | then-at-m w ↦ omega (arith, before (c.loop-k.k * 8) 224 c.args.m (omega arith))
      | else-at-m w ↦ absurd (omega arith)
    ]

pub loop-k-preserved : goal.loop-k-preserved
loop-k-preserved c = let s = c.args in eight_more s.file.now s.m s.at s.o _ _ _ _ c.loop-k.invariant (omega arith) c.copy_eight.ensures

pub returns : goal.returns
returns c = let s = c.args in row-gathered s.file.now s.m s.at s.o _ _ _ _ c.loop-k.invariant c.if-at-m.eights c.copy_padded.ensures (omega arith)

-- What the search leaves of `null_vector`, by the laws of `Turns`.
use mathlib.Core.Path.{refl}
use Prim.Native.Nat.{◌<◌}
use native.Mathlib.Omega.{arith}
use Rattle.solving.proofs.Turns.{keeping_start, keeping_skip, keeping_more, keeping_mixed, keeping_end}
use Rattle.errata.specs.InnerValues.{list_of}
use Rattle.solving.proofs.kernel.null_vector.Goals as goal

pub loop-i-init : goal.loop-i-init
unfolding list_of
loop-i-init c = keeping_start _ (omega arith) (omega arith)

pub loop-i-preserved-then-d-eq0 : goal.loop-i-preserved-then-d-eq0
loop-i-preserved-then-d-eq0 c = keeping_skip c.loop-i.invariant (omega arith) c.byte-d.ensures c.if-d-eq0.true

pub loop-i-preserved-then-p-eq0 : goal.loop-i-preserved-then-p-eq0
loop-i-preserved-then-p-eq0 c =
    let turn : c.loop-i.i < 8 = omega arith in
    keeping_more c.loop-i.invariant turn c.byte-d.ensures refl c.if-d-eq0.false c.if-p-eq0.true c.shift-v.ensures c.saturating_sub-i.ensures

pub loop-i-preserved : goal.loop-i-preserved
loop-i-preserved c =
    let turn : c.loop-i.i < 8 = omega arith in
    keeping_mixed c.loop-i.invariant turn c.byte-d.ensures c.if-p-eq0.false c.mix-v.ensures

pub returns : goal.returns
unfolding list_of
returns c = keeping_end c.loop-i.invariant (omega arith) c.entries.ensures

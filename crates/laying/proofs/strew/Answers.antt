-- One byte more is written: its place lies below o + n, since q is below n over m, rounded up.
use mathlib.Core.Path.{refl}
use Prim.Native.Nat.{◌-◌, ◌*◌, ◌<◌}
use native.Mathlib.Omega.{arith}
use Rattle.ground.proofs.Listed.{ceil-below}
use Rattle.laying.proofs.Strewing.{below-times, strew_more}
use Rattle.laying.proofs.strew.Goals as goal

pub loop-q-preserved : goal.loop-q-preserved
loop-q-preserved c =
    let a = c.args in
    let below : c.loop-q.q * a.m < a.n = ceil-below a.n a.m c.loop-q.q c.requires.0 (omega arith) in
    let inside : c.loop-q.q < 255 - a.c = below-times c.loop-q.q (255 - a.c) a.m a.n below c.requires.3 in
    strew_more _ _ _ _ _ _ _ c.loop-q.invariant _ c.requires.0 (omega arith) below c.requires.4 refl

-- The factors are those of the bits that have been taken, with each turn of one bit more (`blended_more`).
-- Assumes nothing.
use Prim.Native.Nat.{ℕ, ◌<◌}
use native.Mathlib.Omega.{arith}
use Rattle.errata.proofs.Blending.{blended_start, blended_more, blended_end}
use Rattle.solving.proofs.kernel.mix.Goals as goal

pub loop-i-init : goal.loop-i-init
loop-i-init c =
    let x = c.wide-x.ensures.1 in
    let y = c.wide-y.ensures.1 in
    (blended_start _ _ _ _ x y, blended_start _ _ _ _ x y, blended_start _ _ _ _ x y, blended_start _ _ _ _ x y)

pub loop-i-preserved : goal.loop-i-preserved
loop-i-preserved c =
    let x = c.wide-x.ensures.1 in
    let y = c.wide-y.ensures.1 in
    let i : ℕ = c.loop-i.i in
    let turn : 0 < i = omega arith in
    let inv = c.loop-i.invariant in (
      blended_more _ _ _ _ x y i turn inv.0 c.add_up-low.ensures,
      blended_more _ _ _ _ x y i turn inv.1 c.add_up-high.ensures,
      blended_more _ _ _ _ x y i turn inv.2 c.add_up-first.ensures,
      blended_more _ _ _ _ x y i turn inv.3 c.add_up-last.ensures,
    )

pub returns : goal.returns
returns c =
    let x = c.wide-x.ensures.0 in
    let y = c.wide-y.ensures.0 in
    let end = c.loop-i-test.false in
    let inv = c.loop-i.invariant in
    (blended_end _ _ _ x y end inv.0, blended_end _ _ _ x y end inv.1, blended_end _ _ _ x y end inv.2, blended_end _ _ _ x y end inv.3)

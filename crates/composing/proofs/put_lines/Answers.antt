-- Each line has room, and is written where the one before it ends.
use native.Mathlib.Omega.{arith}
use Rattle.composing.proofs.LineLaws.{fifteen, size-line, value-lies, lined_step, lined_end}
use Rattle.composing.proofs.put_lines.Goals as goal

pub put_line-at-requires : goal.put_line-at-requires
put_line-at-requires c =
    let v = c.value_of-v in
    let l = c.loop-k in
    let s = size-line c.args.d l.k v.result (omega arith) v.ensures in (
      omega arith,
      v.ensures.most,
      value-lies c.args.text.now c.args.d l.k v.result v.ensures (c.requires.0.part l.k (omega arith)),
      omega (arith, s, l.invariant.size, l.invariant.long, c.requires.1),
    )

pub loop-k-preserved : goal.loop-k-preserved
loop-k-preserved c =
    let v = c.value_of-v in
    let l = c.loop-k in
    let w = c.put_line-at.ensures in
    lined_step _ _ _ _ _ _ l.invariant v.result _ _ (omega (arith, fifteen c.args.d)) (c.requires.0.part l.k (omega arith)) v.ensures w.1 w.0

pub returns : goal.returns
returns c = let d = c.args.d in lined_end _ _ _ _ _ _ c.loop-k.invariant (omega (arith, fifteen d))

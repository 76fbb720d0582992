-- From no byte to all eight.
-- Assumes nothing.
use native.Mathlib.Omega.{arith}
use Rattle.roots.proofs.Holding.{looking_start, looking_more, looking_end}
use Rattle.roots.proofs.search.look_each.Goals as goal

pub loop-k-init : goal.loop-k-init
loop-k-init c = looking_start _ _ _ _ _ c.requires.0

pub loop-k-preserved : goal.loop-k-preserved
loop-k-preserved c =
    looking_more c.loop-k.invariant (omega arith) _ c.byte.ensures _ _ c.note-m.ensures.sized c.note-m.ensures.held

pub returns : goal.returns
returns c =
    let inv = c.loop-k.invariant in
    record { sized = inv.sized; held = looking_end inv (omega arith) }

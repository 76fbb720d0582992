-- Byte c is written where it belongs; once k are, the others stand beyond n.
use native.Mathlib.Nat.{add-mul}
use native.Mathlib.Omega.{arith}
use Rattle.handing.proofs.TableLaws.{writing_room, writing_next, writing_end}
use Rattle.handing.proofs.tables.scatter_row.Goals as goal

pub bounds-out-to : goal.bounds-out-to
bounds-out-to c =
    let v = c.loop-c.invariant in
    omega (arith, v.1, writing_room _ _ _ _ _ _ _ _ v.0 c.loop-c-test.true c.requires.3)

pub overflow_add-to : goal.overflow_add-to
overflow_add-to c =
    let v = c.loop-c.invariant in
    omega (arith, v.1, v.0.long, writing_room _ _ _ _ _ _ _ _ v.0 c.loop-c-test.true c.requires.3)

pub loop-c-preserved : goal.loop-c-preserved
loop-c-preserved c =
    let v = c.loop-c.invariant in
    (rw v.1 (writing_next _ _ _ _ _ _ _ _ v.0 c.loop-c-test.true), omega (arith, v.1, add-mul c.loop-c.c 1 c.args.m))

pub returns : goal.returns
returns c = writing_end _ _ _ _ _ _ _ _ c.loop-c.invariant.0 c.loop-c-test.false

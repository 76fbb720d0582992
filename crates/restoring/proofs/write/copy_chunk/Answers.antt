-- Nothing of an empty slot; else the part of the store in which the chunk stands.
-- Assumes nothing.
use Prim.Native.Nat.{◌+◌, ◌*◌, ◌≤◌}
use native.Mathlib.Omega.{arith}
use lib.ListN.{length}
use Rattle.contents.specs.Contents.{slot_at}
use Rattle.columns.proofs.Coming.{copied_none, copied_some}
use Rattle.restoring.proofs.write.copy_chunk.Goals as goal

pub overflow_mul-at : goal.overflow_mul-at
unfolding slot_at
overflow_mul-at c =
    let within : c.args.p.start + c.args.c.slot * (c.args.p.slot + 2) + 2 + c.args.c.from + c.args.c.len ≤ length c.args.store.now = c.requires in
    omega (arith, within)

pub overflow_add-at-2 : goal.overflow_add-at-2
unfolding slot_at
overflow_add-at-2 c =
    let within : c.args.p.start + c.args.c.slot * (c.args.p.slot + 2) + 2 + c.args.c.from + c.args.c.len ≤ length c.args.store.now = c.requires in
    omega (arith, within)

pub returns-then-slot_length-eq0 : goal.returns-then-slot_length-eq0
unfolding slot_at
returns-then-slot_length-eq0 c = copied_none _ _ _ _ _ _ _ c.slot_length.ensures c.if-slot_length-eq0.true

pub slice_bounds-copy_in-end : goal.slice_bounds-copy_in-end
unfolding slot_at
slice_bounds-copy_in-end c =
    let within : c.args.p.start + c.args.c.slot * (c.args.p.slot + 2) + 2 + c.args.c.from + c.args.c.len ≤ length c.args.store.now = c.requires in
    omega (arith, within)

pub returns : goal.returns
unfolding slot_at
returns c =
    let within : c.args.p.start + c.args.c.slot * (c.args.p.slot + 2) + 2 + c.args.c.from + c.args.c.len ≤ length c.args.store.now = c.requires in
    copied_some _ _ _ _ _ _ _ c.slot_length.ensures
    c.if-slot_length-eq0.false within _
    c.copy_in.ensures

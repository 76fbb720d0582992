-- What each slot adds to what is written, and where the next one stands.
use mathlib.Core.Path.{sym}
use native.Mathlib.Omega.{arith}
use Rattle.contents.proofs.Slots.{slot-first}
use Rattle.contents.proofs.Walks.{walk_on}
use Rattle.handing.proofs.PassLaws.{joining_first, joining_turn, joining_next, joining_end}
use Rattle.handing.proofs.hand.write_plain.Goals as goal

pub loop-k-init : goal.loop-k-init
loop-k-init c = (sym (slot-first c.args.p), joining_first _ _ _)

pub overflow_add-from : goal.overflow_add-from
overflow_add-from c =
    let slot = joining_turn _ _ _ _ _ _ c.loop-k.invariant.1 _ c.loop-k.invariant.0 c.requires.0 c.loop-k-test.true _ c.slot_length-n.ensures in omega (arith, slot.room, c.loop-k.invariant.0)

pub overflow_add-to : goal.overflow_add-to
overflow_add-to c =
    let slot = joining_turn _ _ _ _ _ _ c.loop-k.invariant.1 _ c.loop-k.invariant.0 c.requires.0 c.loop-k-test.true _ c.slot_length-n.ensures in omega (arith, slot.room, c.loop-k.invariant.0)

pub slice_bounds-copy_in-end : goal.slice_bounds-copy_in-end
slice_bounds-copy_in-end c =
    let slot = joining_turn _ _ _ _ _ _ c.loop-k.invariant.1 _ c.loop-k.invariant.0 c.requires.0 c.loop-k-test.true _ c.slot_length-n.ensures in omega (arith, slot.room, c.loop-k.invariant.0)

pub overflow_add-at : goal.overflow_add-at
overflow_add-at c =
    let slot = joining_turn _ _ _ _ _ _ c.loop-k.invariant.1 _ c.loop-k.invariant.0 c.requires.0 c.loop-k-test.true _ c.slot_length-n.ensures in omega (arith, slot.inside, c.loop-k.invariant.0)

pub loop-k-preserved : goal.loop-k-preserved
loop-k-preserved c =
    let slot = joining_turn _ _ _ _ _ _ c.loop-k.invariant.1 _ c.loop-k.invariant.0 c.requires.0 c.loop-k-test.true _ c.slot_length-n.ensures in
    (omega (arith, c.loop-k.invariant.0, walk_on c.args.p c.loop-k.k), joining_next _ _ _ _ _ _ c.loop-k.invariant.1 _ c.loop-k.invariant.0 _ slot _ c.copy_in.ensures)

pub returns : goal.returns
returns c = joining_end _ _ _ _ _ _ c.loop-k.invariant.1 c.loop-k-test.false c.requires.1

-- What each slot adds to what is written.
use Prim.Native.Nat.{◌*◌}
use native.Mathlib.Omega.{arith}
use Rattle.contents.specs.Contents.{slot_at}
use Rattle.handing.proofs.WalkLaws.{Turn, turn}
use Rattle.handing.proofs.PassLaws.{laying_first, laying_long, laying_next, rows_at}
use Rattle.handing.proofs.hand.write_rows.Goals as goal

pub loop-k-init : goal.loop-k-init
loop-k-init c = laying_first _ _ _ _

pub scatter_rows-requires : goal.scatter_rows-requires
unfolding slot_at
scatter_rows-requires c =
    let slot : Turn c.args.p c.args.store.now
    c.loop-k.k (c.loop-k.q * 255) c.slot_length-count.result = turn _ _ _ _ c.loop-k.invariant.walk c.requires.0.filled c.loop-k-test.true _ c.slot_length-count.ensures in
    let l = c.loop-k in
    (rows_at c.args.p c.args.store.now c.requires.0 l.k l.q c.slot_length-count.result l.invariant.walk slot (omega arith), omega (arith, laying_long c.args.p c.args.store.now c.args.n c.args.out.now l.out l.q l.k l.invariant, c.requires.1))

pub overflow_add-q : goal.overflow_add-q
unfolding slot_at
overflow_add-q c =
    let slot : Turn c.args.p c.args.store.now
    c.loop-k.k (c.loop-k.q * 255) c.slot_length-count.result = turn _ _ _ _ c.loop-k.invariant.walk c.requires.0.filled c.loop-k-test.true _ c.slot_length-count.ensures in
    omega (arith, slot.ends, slot.room, c.loop-k.invariant.walk.short)

pub loop-k-preserved : goal.loop-k-preserved
unfolding slot_at
loop-k-preserved c =
    let slot : Turn c.args.p c.args.store.now
    c.loop-k.k (c.loop-k.q * 255) c.slot_length-count.result = turn _ _ _ _ c.loop-k.invariant.walk c.requires.0.filled c.loop-k-test.true _ c.slot_length-count.ensures in
    laying_next _ _ _ _ _ _ _ c.loop-k.invariant c.requires.0 _ slot _ c.scatter_rows.ensures

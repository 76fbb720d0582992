-- What each slot adds, by whether its rows hold another byte than 0 beyond the file's end.
use Prim.Native.Nat.{◌*◌}
use native.Mathlib.Omega.{arith}
use Rattle.contents.specs.Contents.{slot_at}
use Rattle.handing.proofs.WalkLaws.{Turn, turn}
use Rattle.handing.proofs.PassLaws.{looking_first, looking_next, looking_not, looking_end, rows_at}
use Rattle.handing.proofs.hand.padding_ends.Goals as goal

pub loop-k-init : goal.loop-k-init
loop-k-init c = looking_first _ _ _

pub rows_end-requires : goal.rows_end-requires
unfolding slot_at
rows_end-requires c =
    let slot : Turn c.args.p c.args.store.now
    c.loop-k.k (c.loop-k.q * 255) c.slot_length-count.result = turn _ _ _ _ c.loop-k.invariant.walk c.requires.filled c.loop-k-test.true _ c.slot_length-count.ensures in
    let l = c.loop-k in
    rows_at c.args.p c.args.store.now c.requires l.k l.q c.slot_length-count.result l.invariant.walk slot (omega arith)

pub returns-then-not-rows_end : goal.returns-then-not-rows_end
unfolding slot_at
returns-then-not-rows_end c =
    let slot : Turn c.args.p c.args.store.now
    c.loop-k.k (c.loop-k.q * 255) c.slot_length-count.result = turn _ _ _ _ c.loop-k.invariant.walk c.requires.filled c.loop-k-test.true _ c.slot_length-count.ensures in
    looking_not _ _ _ _ _ c.loop-k.invariant c.requires _ slot _ (c.if-not-rows_end.true) c.rows_end.ensures

pub overflow_add-q : goal.overflow_add-q
unfolding slot_at
overflow_add-q c =
    let slot : Turn c.args.p c.args.store.now
    c.loop-k.k (c.loop-k.q * 255) c.slot_length-count.result = turn _ _ _ _ c.loop-k.invariant.walk c.requires.filled c.loop-k-test.true _ c.slot_length-count.ensures in
    omega (arith, slot.ends, slot.room, c.loop-k.invariant.walk.short)

pub loop-k-preserved : goal.loop-k-preserved
unfolding slot_at
loop-k-preserved c =
    let slot : Turn c.args.p c.args.store.now
    c.loop-k.k (c.loop-k.q * 255) c.slot_length-count.result = turn _ _ _ _ c.loop-k.invariant.walk c.requires.filled c.loop-k-test.true _ c.slot_length-count.ensures in
    looking_next _ _ _ _ _ c.loop-k.invariant c.requires _ slot _ (c.if-not-rows_end.false) c.rows_end.ensures

pub returns : goal.returns
returns c = looking_end _ _ _ _ _ c.loop-k.invariant c.loop-k-test.false

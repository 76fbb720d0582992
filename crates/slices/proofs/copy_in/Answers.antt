-- The bytes that the store has room for are written one after the other. Invariant: the store is a run of the first i of them, `Run`.
use mathlib.Core.Path.{refl, ◌∙◌}
use Prim.Native.Nat.{◌+◌, ◌<◌}
use native.Mathlib.Omega.{arith}
use lib.ListN.{length}
use Rattle.ground.proofs.Writing.{sets_reach, run_begin, run_step, run_end}
use Rattle.slices.proofs.copy_in.Goals as goal

-- what is written lies in the store
inside : (c : goal.After-shared_slice_known-in-loop-i-1) → c.args.at + c.loop-i.i < length c.loop-i.store
inside c =
    let b = c.reach-n.ensures.1 (omega (arith, c.loop-i-test.true)) in
    omega (arith, c.loop-i.invariant.long)

pub loop-i-init : goal.loop-i-init
loop-i-init c = run_begin _ _ _ _

pub bounds-bytes-i : goal.bounds-bytes-i
bounds-bytes-i c = omega (arith, c.reach-n.ensures.0)

pub overflow_add-store : goal.overflow_add-store
overflow_add-store c = omega (arith, inside c)

pub bounds-store-at : goal.bounds-store-at
bounds-store-at c = omega (arith, inside c)

pub loop-i-preserved : goal.loop-i-preserved
loop-i-preserved c = run_step _ _ _ _ _ _ c.loop-i.invariant _ c.loop-i-test.true refl

pub shape_of-store : goal.shape_of-store
shape_of-store c = c.loop-i.invariant.long

pub returns : goal.returns
returns c =
    let a = c.args in
    run_end _ _ _ _ _ _ c.loop-i.invariant c.loop-i-test.false
    ∙ sets_reach a.store.now _ _ a.bytes.now c.reach-n.ensures.0 c.reach-n.ensures.2

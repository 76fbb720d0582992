-- The byte that is copied is the column's, since it stands x times m behind the row's first.
use Prim.Native.Nat.{◌+◌, ◌*◌, ◌<◌}
use native.Mathlib.Omega.{arith}
use Rattle.losses.proofs.Walking.{next-times, going_below, copying_first, copying_next, copying_end}
use Rattle.losses.proofs.runs.copy_run.Goals as goal

pub loop-j-init : goal.loop-j-init
loop-j-init c = record { on = omega arith; copying = copying_first c.requires.1 c.requires.0; place = omega arith }

pub bounds-row-x : goal.bounds-row-x
bounds-row-x c =
    let v = c.loop-j.invariant in
    omega (arith, going_below c.requires.1 v.copying.going v.on (omega (arith, v.place, c.loop-j-test.true)), v.copying.sized)

pub overflow_add-x : goal.overflow_add-x
overflow_add-x c = omega (arith, c.loop-j.invariant.copying.going.within)

pub overflow_add-j-in-loop-j : goal.overflow_add-j-in-loop-j
overflow_add-j-in-loop-j c = omega (arith, c.requires.1.last, c.requires.1.low, c.requires.1.few)

pub loop-j-smaller : goal.loop-j-smaller
loop-j-smaller c =
    let v = c.loop-j.invariant in
    omega (arith, going_below c.requires.1 v.copying.going v.on (omega (arith, v.place, c.loop-j-test.true)))

pub loop-j-preserved : goal.loop-j-preserved
loop-j-preserved c =
    let v = c.loop-j.invariant in
    let below : c.args.first + c.loop-j.x * c.args.m < c.args.end = omega (arith, v.place, c.loop-j-test.true) in
    let short : c.loop-j.x < 255 = going_below c.requires.1 v.copying.going v.on below in
    record {
      on = omega (arith, v.on);
      copying = rw v.place (copying_next c.requires.1 v.copying v.on short below);
      place = omega (arith, v.place, next-times c.loop-j.x c.args.m);
    }

pub returns : goal.returns
returns c =
    let v = c.loop-j.invariant in
    copying_end c.requires.1 v.copying v.on (omega (arith, v.place, c.loop-j-test.false))

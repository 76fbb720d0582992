-- `put_rows` serves exactly where the tests pass and there is room, and then has the front of the output filled with the rows.
-- Assumes nothing.
use mathlib.Core.Bool.{not}
use mathlib.Core.Path.{ap}
use Prim.Native.Nat.{◌*◌}
use native.Mathlib.Omega.{arith}
use Rattle.filling.proofs.Serving.{put_served, put_refused, put-short, lent-front, put_written}
use Rattle.filling.proofs.put_rows.Goals as goal

pub returns-then-not-serves : goal.returns-then-not-serves
returns-then-not-serves c = put_refused _ _ _ _ _ _ c.serves.ensures (ap not c.if-not-serves.true)

pub overflow_mul-n : goal.overflow_mul-n
overflow_mul-n c =
    let f = put_served _ _ _ _ _ c.serves.ensures (ap not c.if-not-serves.false) in
    omega (arith, f.count)

pub returns-then-out-n : goal.returns-then-out-n
returns-then-out-n c = put-short _ _ _ _ _ _ c.serves.ensures (ap not c.if-not-serves.false) (omega arith)

pub overflow_mul-n-2 : goal.overflow_mul-n-2
overflow_mul-n-2 c = omega arith

pub slice_bounds-fill-count : goal.slice_bounds-fill-count
slice_bounds-fill-count c = omega arith

pub slice_bounds-fill-start : goal.slice_bounds-fill-start
slice_bounds-fill-start c = omega arith

pub slice_bounds-fill-end : goal.slice_bounds-fill-end
slice_bounds-fill-end c = omega arith

pub fill-requires : goal.fill-requires
fill-requires c =
    let f = put_served _ _ _ _ _ c.serves.ensures (ap not c.if-not-serves.false) in
    let s = c.args in
    (f.rows, f.count, f.start, lent-front s.out.now (s.n * 255) (omega arith))

pub shape_of-out : goal.shape_of-out
shape_of-out c = omega arith

pub returns : goal.returns
returns c =
    put_written _ _ _ _ _ _ c.serves.ensures (ap not c.if-not-serves.false) _ (omega arith) c.fill.ensures

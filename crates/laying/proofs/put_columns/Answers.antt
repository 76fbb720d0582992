-- `put_columns` serves exactly where the tests pass and there is room, and then has the front of the output filled with the part.
-- Assumes nothing.
use mathlib.Core.Bool.{not}
use mathlib.Core.Path.{ap}
use native.Mathlib.Omega.{arith}
use Rattle.laying.proofs.Serving.{lay_refused, lay_short, lay_part, lay_written}
use Rattle.laying.proofs.put_columns.Goals as goal

pub returns-then-not-serves : goal.returns-then-not-serves
returns-then-not-serves c = lay_refused _ _ _ _ _ _ c.serves.ensures (ap not c.if-not-serves.true)

pub returns-then-out-n : goal.returns-then-out-n
returns-then-out-n c = lay_short _ _ _ _ _ _ c.serves.ensures (ap not c.if-not-serves.false) (omega arith)

pub fill-requires : goal.fill-requires
fill-requires c =
    let a = c.args in
    lay_part a.file.now a.m a.from a.n a.out.now _ c.serves.ensures (ap not c.if-not-serves.false) (omega arith)

pub shape_of-out : goal.shape_of-out
shape_of-out c = omega arith

pub returns : goal.returns
returns c =
    lay_written _ _ _ _ _ _ c.serves.ensures (ap not c.if-not-serves.false) (omega arith) _ c.fill.ensures

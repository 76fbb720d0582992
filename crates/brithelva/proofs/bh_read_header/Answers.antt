-- What was read is told.
use mathlib.Core.Bool.{false}
use native.Mathlib.Omega.{arith}
use Rattle.face.proofs.SayLaws.{reads_as}
use Rattle.brithelva.proofs.bh_read_header.Goals as goal

pub shape_of-fields : goal.shape_of-fields
shape_of-fields c = omega arith

pub returns : goal.returns
returns c = reads_as false _ _ _ _ _ c.read_header.ensures c.put_reading.ensures

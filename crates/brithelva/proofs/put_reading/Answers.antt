-- The fields that were read are put; a refusal is answered.
use native.Mathlib.Omega.{arith}
use Rattle.face.proofs.SayLaws.{read_sent, read-refused}
use Rattle.brithelva.proofs.put_reading.Goals as goal

pub enum_known-reading : goal.enum_known-reading
enum_known-reading c = omega arith

pub enum_known-reading-in-Err-1 : goal.enum_known-reading-in-Err-1
enum_known-reading-in-Err-1 c = omega arith

pub shape_of-fields : goal.shape_of-fields
shape_of-fields c = omega arith

pub returns-in-Ok : goal.returns-in-Ok
returns-in-Ok c = read_sent _ _ _ _ _ c.in-Ok.is c.put_fields.ensures

pub returns-in-Err : goal.returns-in-Err
returns-in-Err c = read-refused _ _ _ _ c.in-Err.is c.refused.ensures

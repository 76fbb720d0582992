-- An accepted verdict puts the bytes; a refused one is answered, and the output stays.
use Rattle.face.proofs.SayLaws.{puts_accepted, puts-refused}
use native.Mathlib.Omega.{arith}
use Rattle.answers.proofs.put_if.Goals as goal

pub returns-in-Ok : goal.returns-in-Ok
returns-in-Ok c = puts_accepted _ _ _ _ _ c.in-Ok.is c.put.ensures

pub returns-in-Err : goal.returns-in-Err
returns-in-Err c = puts-refused _ _ _ _ _ c.in-Err.is c.refused.ensures

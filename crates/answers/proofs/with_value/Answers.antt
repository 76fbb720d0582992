-- An answer that is 0 is given the value; any other stays.
use mathlib.Core.Path.{sym}
use native.Mathlib.Omega.{arith}
use Rattle.face.proofs.SayLaws.{valued_accepted, valued-refused}
use Rattle.answers.proofs.with_value.Goals as goal

pub overflow_mul-result : goal.overflow_mul-result
overflow_mul-result c = omega arith

pub returns-then-answer-eq0 : goal.returns-then-answer-eq0
returns-then-answer-eq0 c = sym (valued_accepted _ _ c.if-answer-eq0.true)

pub returns : goal.returns
returns c = sym (valued-refused _ _ c.if-answer-eq0.false)

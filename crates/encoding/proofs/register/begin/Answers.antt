-- `register::begin` feeds seven bytes to nothing: a word less its last byte has a byte of 0 in front, which changes nothing.
-- Assumes nothing.
use Rattle.encoding.proofs.Feeding.{feeding_start}
use native.Mathlib.Omega.{arith}
use Rattle.encoding.proofs.register.begin.Goals as goal

pub returns : goal.returns
returns c = feeding_start _ _ c.word.result _ (omega arith) c.word.ensures c.turn.ensures

-- All digits are left to write at the start, and one less behind each turn.
use mathlib.Core.Path.{refl}
use native.Mathlib.Omega.{arith}
use Rattle.decimal.proofs.WriteLaws.{writing_begin, writing_more}
use Rattle.decimal.proofs.digits_of.Goals as goal

pub loop-i-init : goal.loop-i-init
loop-i-init c = writing_begin _ _ _ c.count_of-length.ensures refl

pub loop-i-preserved : goal.loop-i-preserved
loop-i-preserved c = writing_more _ _ _ _ c.loop-i.invariant (omega arith)

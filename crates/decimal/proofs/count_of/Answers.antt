-- The count is one more than the logarithm; of 0 it is that of 1.
use native.Mathlib.Omega.{arith}
use Rattle.decimal.proofs.DigitLaws.{digits-log}
use Rattle.decimal.proofs.count_of.Goals as goal

pub returns : goal.returns
returns c = omega (arith, digits-log c.args.n c.ilog10.result (omega arith) (omega arith))

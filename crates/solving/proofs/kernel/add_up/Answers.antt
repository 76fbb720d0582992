-- `kernel::add_up`: a bit times the word of ones is a mask, and no byte meets another (`added_up`).
-- Assumes nothing.
use native.Mathlib.Omega.{arith}
use Rattle.errata.proofs.Blending.{added_up}
use Rattle.solving.proofs.kernel.add_up.Goals as goal

pub returns : goal.returns
returns c = added_up _ _ _ _ _ _ c.requires.0 c.requires.1 (omega arith) (omega arith) c.doubles.ensures

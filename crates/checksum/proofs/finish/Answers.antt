-- `checksum::finish` adds ones to the register, and the sum is exclusive or.
-- Assumes nothing.
use mathlib.Core.Path.{refl}
use Rattle.ground.specs.Bits.{sum}
use Rattle.checksum.proofs.finish.Goals as goal

pub returns : goal.returns
unfolding sum
returns c = refl

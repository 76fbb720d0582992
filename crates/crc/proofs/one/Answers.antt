-- `crc::one` adds the byte that leaves the register to the byte that comes, and their entries to the register moved up by a byte.
-- Assumes nothing.
use Rattle.std.proofs.Common.{rules}
use Rattle.ground.specs.Bits.{sum}
use Rattle.crc.proofs.Steps.{one_is}
use Rattle.crc.proofs.one.Goals as goal

pub returns : goal.returns
unfolding sum
returns c = one_is _ _ _ _ (search rules) (rw c.wide32.ensures.0 at c.two.ensures)

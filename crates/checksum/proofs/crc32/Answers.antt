-- `checksum::crc32` feeds the bytes to the register of ones, and complements it.
-- Assumes nothing.
use mathlib.Core.Path.{ap}
use Prim.Native.Nat.{ℕ}
use Rattle.ground.specs.Bits.{sum}
use Rattle.crc.specs.Crc.{ones, crc}
use Rattle.checksum.proofs.crc32.Goals as goal

pub returns : goal.returns
unfolding crc sum
returns c = ap (λ (x : ℕ). sum x (ones 32)) c.feed.ensures

-- The cases of the CRC hold: antt computes both sides.
-- Assumes nothing.
use mathlib.Core.Path.{◌≡◌, refl}
use mathlib.Core.List.{map}
use Prim.Native.Nat.{ℕ}
use Rattle.ground.specs.Bits.{sum}
use Rattle.crc.specs.Crc.{bit, bits, feed, crc}
use Rattle.crc.specs.Cases.{crc_cases}

pub crc_cases_lem : map (λ (c : ℕ × ℕ). c.0) crc_cases ≡ map (λ (c : ℕ × ℕ). c.1) crc_cases
unfolding crc feed bits bit sum
crc_cases_lem = refl

-- Polynomials over the bits, as numbers: bit i is the coefficient of x^i. Field elements (document 01, section 3) and CRC registers (source document 000, Annex C) are such.
-- Assumes nothing.
use Rattle.std.specs.Prelude.{ℕ, zero, suc}
use Rattle.std.specs.Int.Bits.{bit_xor}

-- the sum of two polynomials: exclusive or
unfoldable pub sum : ℕ → ℕ → ℕ
sum a b = bit_xor a b

-- one bit times a polynomial: b where the bit is 1, and 0 where it is 0
abbrev pub keep : ℕ → ℕ → ℕ
keep zero b = zero
keep (suc n) b = b

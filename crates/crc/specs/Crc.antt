-- The CRC of source document 000, Annex C, over its width w and its polynomial g (whose leading x^w is not written). Document 01, section 2, takes w = 32.
-- A register of w bits is a number, stage b_i its bit i. Assumes nothing.
use Rattle.std.specs.Prelude.{ℕ, zero, suc, ◌-◌, ◌*◌, ◌/◌, ◌%◌, ◌^◌, List, [], ◌∷◌}
use Rattle.ground.specs.Bits.{sum, keep}

-- one bit, the lowest of b, goes in: every stage moves up by one, and g is added where the stage that leaves, b_(w-1), differs from the bit
unfoldable pub bit : ℕ → ℕ → ℕ → ℕ → ℕ
bit w g r b = sum (keep (sum (r / 2 ^ (w - 1)) b % 2) g) (r * 2 % 2 ^ w)

-- the n low bits of b go in, the most significant first
unfoldable pub bits : ℕ → ℕ → ℕ → ℕ → ℕ → ℕ
bits w g zero r b = r
bits w g (suc n) r b = bits w g n (bit w g r (b / 2 ^ n)) b

-- the bytes of a list go in, each as eight bits
unfoldable pub feed : ℕ → ℕ → ℕ → List ℕ → ℕ
feed w g r [] = r
feed w g r (b ∷ bs) = feed w g (bits w g 8 r b) bs

-- w ones
abbrev pub ones : ℕ → ℕ
ones w = 2 ^ w - 1

-- every stage is 1 at the start, and what is left at the end is complemented
unfoldable pub crc : ℕ → ℕ → List ℕ → ℕ
crc w g bs = sum (feed w g (ones w) bs) (ones w)

-- CRC-32: the polynomial 0x04C11DB7
abbrev pub crc32_of : List ℕ → ℕ
crc32_of bs = crc 32 79764919 bs

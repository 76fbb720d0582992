-- A register of w bits stays one, where the polynomial is below x^w.
-- Assumes nothing.
use mathlib.Core.List.{List, [], ◌∷◌}
use Prim.Native.Nat.{ℕ, zero, suc, ◌-◌, ◌*◌, ◌/◌, ◌%◌, ◌^◌, ◌<◌}
use native.Mathlib.Nat.{mod-lt}
use lib.Dec.{lit<}
use lib.Pow.{pow_pos, ones_lt}
use Rattle.ground.specs.Bits.{sum, keep}
use Rattle.ground.proofs.Sums.{sum_lt, keep_lt}
use Rattle.crc.specs.Crc.{bit, bits, feed, ones, crc, crc32_of}

module _ (w g : ℕ) (h : g < 2 ^ w) where
  pub bit_lt : (r b : ℕ) → bit w g r b < 2 ^ w
  unfolding bit
  bit_lt r b = sum_lt w (keep (sum (r / 2 ^ (w - 1)) b % 2) g) (r * 2 % 2 ^ w) (keep_lt w (sum (r / 2 ^ (w - 1)) b % 2) g h) (mod-lt (r * 2) (pow_pos w))

  pub bits_lt : (n r b : ℕ) → r < 2 ^ w → bits w g n r b < 2 ^ w
  unfolding bits
  bits_lt zero r b l = l
  bits_lt (suc n) r b l = bits_lt n (bit w g r (b / 2 ^ n)) b (bit_lt r (b / 2 ^ n))

  pub feed_lt : (r : ℕ) (bs : List ℕ) → r < 2 ^ w → feed w g r bs < 2 ^ w
  unfolding feed
  feed_lt r [] l = l
  feed_lt r (b ∷ bs) l = feed_lt (bits w g 8 r b) bs (bits_lt 8 r b l)

  pub crc_lt : (bs : List ℕ) → crc w g bs < 2 ^ w
  unfolding crc
  crc_lt bs = sum_lt w (feed w g (ones w) bs) (ones w) (feed_lt (ones w) bs (ones_lt w)) (ones_lt w)

pub crc32_lt : (bs : List ℕ) → crc32_of bs < 2 ^ 32
crc32_lt bs = crc_lt 32 0x04C11DB7 (lit< tt) bs

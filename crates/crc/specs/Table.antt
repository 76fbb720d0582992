-- The table by which many bits go into the CRC register at once (source document 000, Annex C; document 01, section 2), and what a walk over any table computes.
-- Of the public calls only `table` and `feed_by` cite it. A half byte is four bits. Assumes nothing.
use Rattle.std.specs.Prelude.{◌≡◌, List, [], ◌∷◌, ℕ, zero, suc, ◌+◌, ◌*◌, ◌/◌, ◌%◌, ◌^◌, ◌<◌, length, get_or, take, drop}
use Rattle.ground.specs.Bits.{sum}
use Rattle.crc.specs.Crc.{bits}

-- the register from 0, after the half byte x and k half bytes of 0
unfoldable pub effect : ℕ → ℕ → ℕ → ℕ → ℕ
effect w g k x = bits w g (k * 4) (bits w g 4 zero x) zero

-- the table has n rows of sixteen entries: entry x of row k is the effect of x with k half bytes behind it
pub record Rule (w g n : ℕ) (t : List ℕ) : Type 0 where
  pub size : length t ≡ n * 16
  pub entry : (k x : ℕ) → k < n → x < 16 → get_or t (k * 16 + x) 0 ≡ effect w g k x

-- bytes as one number, the first one highest; of each the low eight bits count
unfoldable pub number : List ℕ → ℕ
number [] = zero
number (b ∷ bs) = b % 256 * 2 ^ (length bs * 8) + number bs

-- the sum of n entries of any table, one for each of the n low half bytes of v: the lowest one's stands in row k, the next one's in row k + 1, and so on
unfoldable pub entries : List ℕ → ℕ → ℕ → ℕ → ℕ
entries t k zero v = zero
entries t k (suc n) v = sum (get_or t (k * 16 + v % 16) 0) (entries t (k + 1) n (v / 16))

-- the first n bytes go in at once: a register of w bits moves up by n bytes, what leaves it is added to the bytes, and their entries are added to it
unfoldable pub group_by : ℕ → List ℕ → ℕ → ℕ → List ℕ → ℕ
group_by w t n r bs = sum (entries t 0 (n * 2) (sum (r * 2 ^ (n * 8) / 2 ^ w) (number (take n bs)))) (r * 2 ^ (n * 8) % 2 ^ w)

-- q such groups, one after the other
unfoldable pub groups_by : ℕ → List ℕ → ℕ → ℕ → ℕ → List ℕ → ℕ
groups_by w t n zero r bs = r
groups_by w t n (suc q) r bs = groups_by w t n q (group_by w t n r bs) (drop n bs)

-- as many groups of the first size as there are, then of the next size, and so on
unfoldable pub feed_by : ℕ → List ℕ → List ℕ → ℕ → List ℕ → ℕ
feed_by w t [] r bs = r
feed_by w t (n ∷ ns) r bs = feed_by w t ns (groups_by w t n (length bs / n) r bs) (drop (length bs / n * n) bs)

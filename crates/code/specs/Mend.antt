-- Rows of a payload, each repaired: document 01, section 5, Offer ('each row is repaired first'), and refusal 13; how many bytes were mended in them: document 02, R-7.
-- Assumes nothing.
use Rattle.std.specs.Prelude.{List, [], ◌++◌, ℕ, zero, suc, ◌+◌, take, drop}
use Rattle.code.specs.Code.{distance}
use Rattle.code.specs.Search.{Repaired}
use Rattle.code.specs.Search.Repaired.{found, none}
use Rattle.code.specs.Repair.{repair_of}

-- a repaired payload and how many bytes of it were mended, or the first row that has no coded row within eight bytes
pub data Mended : Type 0 where
  whole : List ℕ → ℕ → Mended
  broken : ℕ → Mended

abbrev pub before : List ℕ → ℕ → Mended → Mended
before s k (whole b n) = whole (s ++ b) (k + n)
before s k (broken i) = broken i

-- row i came as r and was answered; where it is s, it was mended at the places at which they differ
abbrev pub behind : List ℕ → Repaired → ℕ → Mended → Mended
behind r (found s) i later = before s (distance r s) later
behind r none i later = broken i

-- n rows of 255 bytes, the first being row i
unfoldable pub mend_rows : ℕ → ℕ → List ℕ → Mended
mend_rows zero i b = whole [] 0
mend_rows (suc n) i b = behind (take 255 b) (repair_of (take 255 b)) i (mend_rows n (suc i) (drop 255 b))

-- of n rows that came as b and stand as c, the sum of the places at which each differs
unfoldable pub altered_in : ℕ → List ℕ → List ℕ → ℕ
altered_in zero b c = zero
altered_in (suc n) b c = distance (take 255 b) (take 255 c) + altered_in n (drop 255 b) (drop 255 c)

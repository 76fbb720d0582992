-- Vocabulary of the private functions that find a vector which eight runs of the syndromes annihilate. Nobody needs to believe it: no contract of a public call cites it.
-- Assumes nothing.
use Rattle.std.specs.Prelude.{◌≡◌, ◌≢◌, List, ℕ, suc, ◌^◌, ◌≤◌, ◌<◌, length, get_or}
use Rattle.ground.specs.Bits.{sum, keep}
use Rattle.ground.specs.Lists.{listed}
use Rattle.words.specs.Words.{byte_at}
use Rattle.field.specs.declared.Sixteen.{Sixteen}
use Rattle.field.specs.Field.{product}
use Rattle.field.specs.Words.{entry}
use Rattle.errata.specs.InnerSums.{run_of}

-- nine entries of which those from n on are 0
pub record Short (n : ℕ) (v : List ℕ) : Type 0 where
  pub sized : length v ≡ 9
  pub above : (m : ℕ) → n ≤ m → get_or v m 0 ≡ 0

-- the runs before run i annihilate v
abbrev pub Passed : List ℕ → ℕ → List ℕ → Type 0
Passed s i v = (k : ℕ) → k < i → run_of v s k 9 ≡ 0

-- v has a leading entry, and eight runs annihilate it
pub record Annihilated (s : List ℕ) (v : List ℕ) : Type 0 where
  pub top : ℕ
  pub inside : top < 9
  pub short : Short (suc top) v
  pub leading : get_or v top 0 ≢ 0
  pub passed : Passed s 8 v

-- ---- in words

-- two words as sixteen entries
abbrev pub in_two : ℕ → ℕ → Sixteen
in_two low high = record { low = low; high = high }

-- the first nine of the sixteen
unfoldable pub nine : ℕ → ℕ → List ℕ
nine low high = listed (entry (in_two low high)) 9 0

-- in each byte r is p times a and d times b
pub record Blended (p d a b r : ℕ) : Type 0 where
  pub word : r < 2 ^ 64
  pub entry : (k : ℕ) → k < 8 → byte_at r k ≡ sum (product p (byte_at a k)) (product d (byte_at b k))

-- in each byte r is w doubled, and a and b by a bit of each factor
pub record AddedUp (w a b c d r : ℕ) : Type 0 where
  pub word : r < 2 ^ 64
  pub entry : (k : ℕ) → k < 8 → byte_at r k ≡ sum (product 2 (byte_at w k)) (sum (keep c (byte_at a k)) (keep d (byte_at b k)))

-- Vocabulary of the private functions that form products in words. Nobody needs to believe it: no contract of a public call cites it.
-- Assumes nothing.
use Rattle.std.specs.Prelude.{◌≡◌, ℕ, ◌/◌, ◌%◌, ◌^◌, ◌<◌}
use Rattle.ground.specs.Bits.{sum, keep}
use Rattle.words.specs.Words.{byte_at}
use Rattle.field.specs.Field.{product}

-- r is s, with each byte of a added where bit i of that byte of b is 1
pub record Taken (s a b i r : ℕ) : Type 0 where
  pub word : r < 2 ^ 64
  pub entry : (k : ℕ) → k < 8 → byte_at r k ≡ sum (byte_at s k) (keep (byte_at b k / 2 ^ i % 2) (byte_at a k))

-- each byte of r is the square of that of w
pub record Squared (w r : ℕ) : Type 0 where
  pub word : r < 2 ^ 64
  pub entry : (k : ℕ) → k < 8 → byte_at r k ≡ product (byte_at w k) (byte_at w k)

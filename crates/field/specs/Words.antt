-- Elements in words: a word of 64 bits holds eight, the lowest byte first, and two words hold sixteen. Document 01, section 3, has the products; here they are formed
-- eight at once. Assumes nothing.
use Rattle.std.specs.Prelude.{◌≡◌, cond, ℕ, ◌-◌, ◌^◌, ◌<◌, ltb}
use Rattle.words.specs.Words.{byte_at}
use Rattle.field.specs.declared.Sixteen.{Sixteen}
use Rattle.field.specs.Field.{product, Inverse}

-- r is w with each of its eight bytes doubled, that is multiplied by x
pub record Doubled (w r : ℕ) : Type 0 where
  pub word : r < 2 ^ 64
  pub entry : (k : ℕ) → k < 8 → byte_at r k ≡ product 2 (byte_at w k)

-- entry k of sixteen elements in two words
unfoldable pub entry : Sixteen → ℕ → ℕ
entry x k = cond (ltb k 8) (byte_at x.low k) (byte_at x.high (k - 8))

-- both are words
pub record InWords (x : Sixteen) : Type 0 where
  pub low : x.low < 2 ^ 64
  pub high : x.high < 2 ^ 64

-- each entry of r is the product of those of a and b
pub record Products (a b r : Sixteen) : Type 0 where
  pub words : InWords r
  pub entry : (k : ℕ) → k < 16 → entry r k ≡ product (entry a k) (entry b k)

-- each entry of r is one over that of a; 0 for 0
pub record Inverses (a r : Sixteen) : Type 0 where
  pub words : InWords r
  pub entry : (k : ℕ) → k < 16 → Inverse (entry a k) (entry r k)

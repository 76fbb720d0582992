-- Vocabulary of the private functions that add up the syndromes. Nobody needs to believe it: no contract of a public call cites it.
-- Assumes nothing.
use Rattle.std.specs.Prelude.{◌≡◌, List, ℕ, ◌+◌, ◌-◌, ◌*◌, ◌/◌, ◌%◌, ◌^◌, ◌<◌, length, get_or}
use Rattle.ground.specs.Bits.{sum, keep}
use Rattle.field.specs.Field.{product, power}
use Rattle.field.specs.Words.{entry}
use Rattle.code.specs.Total.{total}

-- the table: two words for each byte m of what a row leaves, which have the powers by which it counts
pub record Points (t : List ℕ) : Type 0 where
  pub room : length t ≡ 32
  pub word : (i : ℕ) → get_or t i 0 < 2 ^ 64
  pub entry : (m j : ℕ) → m < 16 → j < 16 → entry (record { low = get_or t (2 * m) 0; high = get_or t (2 * m + 1) 0 }) j ≡ power ((15 - m) * j)

-- the power by which byte m counts in syndrome j, where bit i of the byte is 1; summed up over the first n bytes
unfoldable pub added : List ℕ → ℕ → ℕ → ℕ → ℕ
added rest i n j = total n (λ m. keep (get_or rest m 0 / 2 ^ i % 2) (power ((15 - m) * j)))

-- syndrome j, of which v has come by the bits above bit i, with what bit i adds
unfoldable pub turned : List ℕ → ℕ → ℕ → ℕ → ℕ
turned rest i v j = sum (product 2 v) (added rest i 16 j)

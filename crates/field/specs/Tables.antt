-- The field's table of powers (document 01, section 3).
-- Assumes nothing.
use Rattle.std.specs.Prelude.{◌≡◌, List, ℕ, ◌<◌, length, get_or}
use Rattle.field.specs.Field.{power}

-- entry i is α^i: one round of 255 and the first again, so that every byte is an index
pub record Powers (t : List ℕ) : Type 0 where
  pub room : length t ≡ 256
  pub entry : (i : ℕ) → i < 256 → get_or t i 0 ≡ power i

-- The syndromes of a row (document 01, section 3), from what it leaves when the generator divides it: its values at the powers of α. Assumes nothing.
use Rattle.std.specs.Prelude.{◌≡◌, List, ℕ, ◌<◌}
use Rattle.field.specs.Field.{power}
use Rattle.field.specs.declared.Sixteen.{Sixteen}
use Rattle.field.specs.Words.{entry, InWords}
use Rattle.code.specs.Value.{value}

-- s has the values at the powers of α, j from 0 to 15, of the polynomial with these coefficients, the highest power first
pub record Syndromes (rest : List ℕ) (s : Sixteen) : Type 0 where
  pub words : InWords s
  pub entry : (j : ℕ) → j < 16 → entry s j ≡ value rest (power j)

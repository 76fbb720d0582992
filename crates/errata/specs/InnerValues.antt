-- Vocabulary of the private functions that work on sixteen bytes in two words. Nobody needs to believe it: no contract of a public call cites it.
-- Assumes nothing.
use Rattle.std.specs.Prelude.{◌≡◌, List, ℕ, ◌+◌, ◌≤◌, ◌<◌, get_or}
use Rattle.field.specs.Field.{product, power, Inverse}
use Rattle.ground.specs.Lists.{listed}
use Rattle.field.specs.declared.Sixteen.{Sixteen}
use Rattle.field.specs.Words.{entry}

-- the sixteen as a list; no abbreviation, since a check would write them all out at each step
unfoldable pub list_of : Sixteen → List ℕ
list_of x = listed (entry x) 16 0

-- all entries of sixteen are 0 that have n behind them
abbrev pub Empty : Sixteen → ℕ → Type 0
Empty left n = (j : ℕ) → n + j < 16 → entry left j ≡ 0

-- x has the locators of sixteen places
abbrev pub Located : List ℕ → Sixteen → Type 0
Located at x = (k : ℕ) → k < 16 → entry x k ≡ power (get_or at k 0)

-- r is what was gathered, of less than two places; of more, that over the gaps
pub record Divided (gathered gaps : Sixteen) (n : ℕ) (r : Sixteen) : Type 0 where
  pub few : n < 2 → (k : ℕ) → k < 16 → entry r k ≡ entry gathered k
  pub many : 2 ≤ n → (k : ℕ) → k < 16 → (i : ℕ) × Inverse (entry gaps k) i × (entry r k ≡ product (entry gathered k) i)

-- Vocabulary of the private functions that fill given places. Nobody needs to believe it: no contract of a public call cites it.
-- Assumes nothing.
use Rattle.std.specs.Prelude.{◌≡◌, List, ℕ, ◌≤◌, ◌<◌, length, get_or}
use Rattle.errata.specs.declared.Errata.{Errata}

-- r has the first n entries of l, and zeros behind them
pub record Front (n : ℕ) (l r : List ℕ) : Type 0 where
  pub sized : length r ≡ 16
  pub kept : (k : ℕ) → k < n → get_or r k 0 ≡ get_or l k 0
  pub behind : (k : ℕ) → n ≤ k → get_or r k 0 ≡ 0

-- e has the values c at the first n places
pub record Filled (at c : List ℕ) (n : ℕ) (e : Errata) : Type 0 where
  pub many : e.n ≡ n
  pub places : Front n at e.at
  pub amounts : Front n c e.values

-- Vocabulary of the private functions that search for roots. Nobody needs to believe it: no contract of a public call cites it.
-- Assumes nothing.
use Rattle.std.specs.Prelude.{◌≡◌, Bool, cond, ◌&&◌, List, [], ◌∷◌, ◌++◌, ℕ, suc, ◌+◌, ◌*◌, ◌<◌, eqb, ltb, length, get_or, take}
use Rattle.std.specs.Int.Bits.{bit_xor}
use Rattle.ground.specs.Bits.{sum}
use Rattle.words.specs.Words.{byte_at}
use Rattle.field.specs.Field.{product, power}
use Rattle.code.specs.Value.{eval}
use Rattle.roots.specs.Roots.{passing}

-- t has behind the n words from `at` on the first j of them again, with w added; in front of these it is s
pub record Added (j n at w : ℕ) (s t : List ℕ) : Type 0 where
  pub room : length t ≡ 256
  pub entry : (i : ℕ) → i < j → get_or t (at + n + i) 0 ≡ bit_xor (get_or s (at + i) 0) w
  pub front : (i : ℕ) → i < at + n → get_or t i 0 ≡ get_or s i 0

-- t has n words from `at` on, word h with the product of h and byte k of w at byte k; in front of them it is s
pub record Multiples (n at w : ℕ) (s t : List ℕ) : Type 0 where
  pub room : length t ≡ 256
  pub entry : (h k : ℕ) → h < n → k < 8 → byte_at (get_or t (at + h) 0) k ≡ product h (byte_at w k)
  pub front : (j : ℕ) → j < at → get_or t j 0 ≡ get_or s j 0

-- the table of the first `top` coefficients behind the constant: a word for each coefficient i + 1 and each half byte h, at the low and at the high place
pub record Words (top : ℕ) (t : List ℕ) : Type 0 where
  pub room : length t ≡ 256
  pub low : (i h k : ℕ) → i < top → h < 16 → k < 8 → byte_at (get_or t (32 * i + h) 0) k ≡ product h (power ((i + 1) * (k + 1)))
  pub high : (i h k : ℕ) → i < top → h < 16 → k < 8 → byte_at (get_or t (32 * i + 16 + h) 0) k ≡ product (h * 16) (power ((i + 1) * (k + 1)))

-- nine coefficients of which those behind `top` are 0
pub record Short (top : ℕ) (t : List ℕ) : Type 0 where
  pub sized : length t ≡ 9
  pub above : (m : ℕ) → top < m → get_or t m 0 ≡ 0

-- r has the values of u at α^1 to α^8, less its constant, and each coefficient of t is that of u times α^(8 · i)
pub record Moved (u : List ℕ) (r : ℕ) (t : List ℕ) : Type 0 where
  pub sized : length t ≡ 9
  pub values : (k : ℕ) → k < 8 → sum (get_or u 0 0) (byte_at r k) ≡ eval u (power (k + 1))
  pub first : get_or t 0 0 ≡ get_or u 0 0
  pub next : (i : ℕ) → get_or t (suc i) 0 ≡ product (get_or u (suc i) 0) (power (8 * suc i))

-- n and `at` are the first sixteen of l, and zeros behind them
pub record Held (l : List ℕ) (n : ℕ) (at : List ℕ) : Type 0 where
  pub sized : length at ≡ 16
  pub count : n ≡ length (take 16 l)
  pub entry : (k : ℕ) → k < 16 → get_or at k 0 ≡ get_or l k 0

-- e is held besides, where x is y and e is below 255
pub record Noted (x y e n : ℕ) (at : List ℕ) (r : ℕ) (out : List ℕ) : Type 0 where
  pub sized : length out ≡ 16
  pub held : (l : List ℕ) → Held l n at → Held (l ++ cond (eqb x y && ltb e 255) (e ∷ []) []) r out

-- those of e + 1 to e + 8 are held besides that pass f, which are the ones below 255 at which the byte of w is y
pub record Looked (w y e n : ℕ) (at : List ℕ) (r : ℕ) (out : List ℕ) : Type 0 where
  pub sized : length out ≡ 16
  pub held : (l : List ℕ) (f : ℕ → Bool) → ((k : ℕ) → k < 8 → f (e + 1 + k) ≡ (eqb (byte_at w k) y && ltb (e + 1 + k) 255)) → Held l n at → Held (l ++ passing f 8 (e + 1)) r out

-- Rows that come one after the other, written to where their bytes stand in the file. `row_start` and `columns_within` are what the public calls of these
-- names answer; the rest is vocabulary of private functions above, which nobody needs to believe: `scattered-all` (proofs/Scatter.antt) says that it gives the tables undone. Assumes nothing.
use Rattle.std.specs.Prelude.{cond, List, [], ◌∷◌, ℕ, zero, suc, ◌+◌, ◌-◌, ◌*◌, ◌/◌, ◌%◌, ◌<◌, ◌≤◌, min, ltb, set}
use Rattle.ground.specs.Lists.{ceil}
use Rattle.layout.specs.Layout.{file_byte_at}

-- x at p, if that is below n
unfoldable pub set_below : ℕ → List ℕ → ℕ → ℕ → List ℕ
set_below n out p x = cond (ltb p n) (set out p x) out

-- the bytes of a row at p, p + m, p + 2 · m .., where that is below n
abbrev pub spread : ℕ → ℕ → List ℕ → ℕ → List ℕ → List ℕ
spread m n [] p out = out
spread m n (x ∷ xs) p out = spread m n xs (p + m) (set_below n out p x)

-- where row q, the rows of all tables counted through, begins in the file
abbrev pub row_start : ℕ → ℕ → ℕ
row_start m q = file_byte_at m (record { table = q / m; row = q % m; column = 0 })

-- how many of the 239 bytes at p, p + m .. stand below n
abbrev pub columns_within : ℕ → ℕ → ℕ → ℕ
columns_within m p n = min (ceil (n - p) m) 239

-- the information bytes of the rows below k
abbrev pub scattered : ℕ → ℕ → (ℕ → List ℕ) → ℕ → List ℕ → List ℕ
scattered m n row zero out = out
scattered m n row (suc k) out = spread m n (row k) (row_start m k) (scattered m n row k out)

-- of the bytes at p, p + m, .., 239 of them, the first k stand below n and the others do not
pub record Columns (m n p k : ℕ) : Type 0 where
  pub within : k ≤ 239
  pub inside : (c : ℕ) → c < k → p + c * m < n
  pub outside : (c : ℕ) → k ≤ c → c < 239 → n ≤ p + c * m

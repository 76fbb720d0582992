-- Bytes of the tables by where they stand in what is sent by columns, and writes that stand some way apart: vocabulary of the contracts of private functions. Nobody needs to
-- believe it: the public call's contract (Lay.antt) does not name it. Assumes nothing.
use Rattle.std.specs.Prelude.{◌≡◌, List, ℕ, ◌+◌, ◌*◌, ◌/◌, ◌%◌, ◌<◌, ◌≤◌, length, get_or}
use Rattle.layout.specs.Layout.{tables_of, sent_spot, coded_at}

-- byte j of what is sent
unfoldable pub sent_byte : ℕ → List ℕ → ℕ → ℕ
sent_byte m file j = coded_at m file (sent_spot 1 m j)

-- byte p of table t
unfoldable pub table_byte : ℕ → List ℕ → ℕ → ℕ → ℕ
table_byte m file t p = coded_at m file (record { table = t; row = p % m; column = p / m })

-- table t is one of the file's
pub record Table (len m t : ℕ) : Type 0 where
  pub rows : 0 < m
  pub rows-most : m ≤ 255
  pub len-most : len ≤ 16777216
  pub there : t < tables_of m len

-- n bytes from byte j on are there, and there is room for them from byte o on
pub record Part (len m j n room o : ℕ) : Type 0 where
  pub rows : 0 < m
  pub rows-most : m ≤ 255
  pub len-most : len ≤ 16777216
  pub few : n ≤ 4077
  pub there : j + n ≤ 255 * m * tables_of m len
  pub enough : o + n ≤ room

-- out is out₀ with f 0, f 1, .. at o, o + m, .., as long as that is below o + n
pub record Strewn (f : ℕ → ℕ) (m n o : ℕ) (out₀ out : List ℕ) : Type 0 where
  pub long : length out ≡ length out₀
  pub placed : (q : ℕ) → q * m < n → get_or out (o + q * m) 0 ≡ f q
  pub others : (y : ℕ) → ((q : ℕ) → q * m < n → y ≡ o + q * m → ⊥) → get_or out y 0 ≡ get_or out₀ y 0

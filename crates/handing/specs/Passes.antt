-- The vocabulary of the private functions behind Hand out. Nobody needs to believe it: the public contract does not cite it.
-- Assumes nothing.
use Rattle.std.specs.Prelude.{◌≡◌, Bool, true, false, List, ℕ, ◌+◌, ◌*◌, ◌<◌, ◌≤◌, length, get_or}
use Rattle.ground.specs.Lists.{listed}
use Rattle.layout.specs.Spread.{row_start, scattered}
use Rattle.places.specs.declared.Place.{Place}
use Rattle.places.specs.Places.{end_of}
use Rattle.contents.specs.Contents.{contents, any_wrong, joined}

-- ---- rows that stand one behind the other

-- the 239 information bytes of the row that stands at at, and of row q of those sent; no abbreviation, since a check would write out 239 bytes at each comparison
unfoldable pub info_at : List ℕ → ℕ → List ℕ
info_at s at = listed (λ c. get_or s (at + c) 0) 239 0

abbrev pub info_in : List ℕ → ℕ → List ℕ
info_in sent q = info_at sent (q * 255)

-- count rows from at on lie in a store of that length, as do as many bytes as all rows up to them have, the first being row q of tables of m rows
pub record RowsAt (m size at count q : ℕ) : Type 0 where
  pub some : 0 < m
  pub few : m ≤ 255
  pub inside : at + count * 255 ≤ size
  pub below : (q + count) * 255 ≤ size

-- they are rows q and on of any rows whose first q rows have been written
abbrev pub Scatters : ℕ → ℕ → List ℕ → ℕ → ℕ → ℕ → List ℕ → List ℕ → Type 0
Scatters m n s at count q before after =
    (row : ℕ → List ℕ) (out : List ℕ) → ((j : ℕ) → j < count → row (q + j) ≡ info_at s (at + j * 255))
    → before ≡ scattered m n row q out → after ≡ scattered m n row (q + count) out

-- they hold 0 wherever they reach beyond n bytes of the file
abbrev pub Clear : ℕ → ℕ → List ℕ → ℕ → ℕ → ℕ → Type 0
Clear m n s at count q = (j : ℕ) → j < count → (c : ℕ) → c < 239 → n ≤ row_start m (q + j) + c * m → get_or s (at + j * 255 + c) 0 ≡ 0

-- whether they do
pub data Padding (m n : ℕ) (s : List ℕ) (at count q : ℕ) : Bool → Type 0 where
  clear : Clear m n s at count q → Padding m n s at count q true
  spoilt : (j : ℕ) → j < count → (c : ℕ) → c < 239 → n ≤ row_start m (q + j) + c * m → (get_or s (at + j * 255 + c) 0 ≡ 0 → ⊥) → Padding m n s at count q false

-- ---- a place

-- the payloads joined
abbrev pub sent_in : Place → List ℕ → List ℕ
sent_in p s = joined (contents p s)

-- it lies in the store in row order, and has rows in a table where it has protection
pub record Usable (p : Place) (s : List ℕ) : Type 0 where
  pub ends : end_of p ≤ length s
  pub by_rows : p.order ≡ 0
  pub rows : (p.protection ≡ 0 → ⊥) → 1 ≤ p.rows

-- none of its slots is wrong
pub record Filled (p : Place) (s : List ℕ) : Type 0 where
  pub ends : end_of p ≤ length s
  pub right : any_wrong (contents p s) ≡ false

-- and they hold rows
pub record Rowed (p : Place) (s : List ℕ) : Type 0 where
  pub filled : Filled p s
  pub protected : p.protection ≡ 0 → ⊥
  pub by_rows : p.order ≡ 0
  pub least : 1 ≤ p.rows

-- The vocabulary of the private functions that write the file of a place in column order, byte by byte. Nobody needs to believe it: the public contract does not cite it.
-- Assumes nothing.
use Rattle.std.specs.Prelude.{◌≡◌, true, false, cond, List, ℕ, zero, suc, ◌+◌, ◌-◌, ◌*◌, ◌<◌, ◌≤◌, ltb, length, get_or}
use Rattle.std.proofs.lemmas.List.Edits.{sets}
use Rattle.code.specs.Restore.{Fits}
use Rattle.errata.specs.Restoring.{falling_to, among}
use Rattle.layout.specs.Layout.{spot_of, sent_byte_at}
use Rattle.layout.specs.Spread.{set_below}
use Rattle.places.specs.declared.Place.{Place}
use Rattle.contents.specs.Slots.{length_at}
use Rattle.contents.specs.Contents.{bytes_at, contents}
use Rattle.losses.specs.Losses.{lost_at}
use Rattle.columns.specs.Columns.{row_restored, row_in}

-- ---- a byte of the file

-- where it stands in what was sent, and the row in which it stands, the rows of all tables counted through
abbrev pub sent_of : ℕ → ℕ → ℕ
sent_of m i = sent_byte_at 1 m (spot_of m i)

abbrev pub row_number : ℕ → ℕ → ℕ
row_number m i = (spot_of m i).table * m + (spot_of m i).row

-- what it is, by the restored row
unfoldable pub aim_of : Place → List ℕ → ℕ → ℕ
aim_of p s i = get_or (row_in (row_restored p.rows p.slot (contents p s) (row_number p.rows i))) (spot_of p.rows i).column 0

-- it came, or it is lost and stands in row q
abbrev pub Known : Place → List ℕ → ℕ → Type 0
Known p s i = lost_at p.slot (contents p s) (sent_of p.rows i) ≡ false

abbrev pub LostRow : Place → List ℕ → ℕ → ℕ → Type 0
LostRow p s q i = (row_number p.rows i ≡ q) × (lost_at p.slot (contents p s) (sent_of p.rows i) ≡ true)

-- or in one of the rows below k
abbrev pub LostBelow : Place → List ℕ → ℕ → ℕ → Type 0
LostBelow p s k i = (row_number p.rows i < k) × (lost_at p.slot (contents p s) (sent_of p.rows i) ≡ true)

-- of the first n bytes those in P are now what they are to be, and no other is less so; behind them nothing changed
pub record Nearer (aim : ℕ → ℕ) (n : ℕ) (P : ℕ → Type 0) (before after : List ℕ) : Type 0 where
  pub long : length after ≡ length before
  pub done : (i : ℕ) → i < n → P i → get_or after i 0 ≡ aim i
  pub kept : (i : ℕ) → i < n → get_or before i 0 ≡ aim i → get_or after i 0 ≡ aim i
  pub beyond : (i : ℕ) → n ≤ i → get_or after i 0 ≡ get_or before i 0

-- ---- what came

-- len bytes of the file from byte f on stand in one slot, from its byte from on
pub record Together (m size n f slot from len : ℕ) : Type 0 where
  pub some : 0 < len
  pub ends : f + len ≤ n
  pub inside : from + len ≤ size
  pub at : (i : ℕ) → i < len → sent_of m (f + i) ≡ slot * size + (from + i)

-- of the slot at at, len bytes from its byte from on are put where they belong, unless it is empty
pub record Copied (s : List ℕ) (at from len to : ℕ) (before after : List ℕ) : Type 0 where
  pub empty : length_at s at ≡ 0 → after ≡ before
  pub filled : (length_at s at ≡ 0 → ⊥) → after ≡ sets before to (bytes_at s (at + 2 + from) len)

-- ---- what is lost

-- a row of which the bytes at the first n places are lost, 0 standing there, and the coded row that has the others
pub record Lacking (row at : List ℕ) (n : ℕ) (s : List ℕ) : Type 0 where
  pub falling : falling_to at n ≡ true
  pub fits : Fits (among at n) row s
  pub empty : (k : ℕ) → k < n → get_or row (254 - get_or at k 0) 0 ≡ 0

-- v has the bytes of such a row at those places, whichever row it is
abbrev pub Restores : List ℕ → List ℕ → ℕ → List ℕ → Type 0
Restores row at n v = (s : List ℕ) → Lacking row at n s → (k : ℕ) → k < n → get_or v k 0 ≡ get_or s (254 - get_or at k 0) 0

-- the byte v in column c of a row whose first byte stands at base, where this is an information column and the byte is below n
unfoldable pub put_column : ℕ → ℕ → ℕ → List ℕ → ℕ → ℕ → List ℕ
put_column m n base out c v = cond (ltb c 239) (set_below n out (base + c * m) v) out

-- the first k values in the columns of their places
unfoldable pub put_columns : ℕ → ℕ → ℕ → List ℕ → List ℕ → ℕ → List ℕ → List ℕ
put_columns m n base at v zero out = out
put_columns m n base at v (suc k) out = put_column m n base (put_columns m n base at v k out) (254 - get_or at k 0) (get_or v k 0)

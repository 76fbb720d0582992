-- Vocabulary of the private functions that gather a row by its runs. Nobody needs to believe it: no contract of a public call cites it.
-- Assumes nothing.
use Rattle.std.specs.Prelude.{◌≡◌, Bool, true, cond, List, ℕ, ◌+◌, ◌-◌, ◌*◌, ◌/◌, ◌^◌, ◌<◌, ◌≤◌, ltb, length, get_or}
use Rattle.roots.specs.Roots.{passing}
use Rattle.places.specs.declared.Place.{Place}
use Rattle.places.specs.Places.{end_of, in_rows}
use Rattle.contents.specs.Contents.{contents, bytes_at, slot_at}
use Rattle.losses.specs.Losses.{payload_at, came_at, lost_at}

-- the place lies in a store of that size, and has rows in a table and bytes in a slot
pub record Tabled (p : Place) (size : ℕ) : Type 0 where
  pub ends : end_of p ≤ size
  pub rows : 0 < p.rows
  pub slot : 0 < p.slot

-- column x of the row whose column 0 is byte `first` of what was sent, and whether it is lost
abbrev pub byte_in : Place → List ℕ → ℕ → ℕ → ℕ
byte_in p s first x = came_at p.slot (contents p s) (first + x * p.rows)

abbrev pub gone_in : Place → List ℕ → ℕ → ℕ → Bool
gone_in p s first x = lost_at p.slot (contents p s) (first + x * p.rows)

-- the first c bytes of the row are those of f, and 0 stands behind them
pub record Part (f : ℕ → ℕ) (row : List ℕ) (c : ℕ) : Type 0 where
  pub sized : length row ≡ 255
  pub done : (x : ℕ) → x < c → get_or row x 0 ≡ f x
  pub ahead : (x : ℕ) → c ≤ x → get_or row x 0 ≡ 0

-- so many of the first c columns pass g, and the first sixteen of them are told; 0 stands behind them
pub record Told (g : ℕ → Bool) (c lost : ℕ) (at : List ℕ) : Type 0 where
  pub sized : length at ≡ 16
  pub count : lost ≡ length (passing g c 0)
  pub entry : (k : ℕ) → k < 16 → get_or at k 0 ≡ cond (ltb k (length (passing g c 0))) (254 - get_or (passing g c 0) k 0) 0

-- slot k has n bytes, none where it is empty, its length is wrong or there is no such slot
pub record Held (p : Place) (s : List ℕ) (k n : ℕ) : Type 0 where
  pub fits : n ≤ p.slot
  pub inside : 0 < n → k < p.count
  pub bytes : payload_at (contents p s) k ≡ bytes_at s (slot_at p k + 2) n

-- r is the lower of a and b
pub record Least (a b r : ℕ) : Type 0 where
  pub left : r ≤ a
  pub right : r ≤ b
  pub above : (z : ℕ) → z < a → z < b → z < r

-- columns m bytes apart from c on, the first of the row at `first`, none beyond the row's 255 before `end`
pub record Walk (first m end c : ℕ) : Type 0 where
  pub some : 0 < m
  pub few : m ≤ 255
  pub low : first ≤ 2 ^ 47
  pub column : c ≤ 255
  pub last : end ≤ first + 255 * m

-- the columns from c to r are those that stand before `end`
pub record Reached (first m end c r : ℕ) : Type 0 where
  pub on : c ≤ r
  pub within : r ≤ 255
  pub before : (x : ℕ) → c ≤ x → x < r → first + x * m < end
  pub behind : end ≤ first + r * m

-- these are copied from s, in which byte j of what was sent stands at d + j
pub record Copied (first m d end : ℕ) (s : List ℕ) (c : ℕ) (row : List ℕ) (r : ℕ) (out : List ℕ) : Type 0 where
  pub sized : length out ≡ 255
  pub reached : Reached first m end c r
  pub part : (f : ℕ → ℕ) → ((x : ℕ) → c ≤ x → x < r → f x ≡ get_or s (d + (first + x * m)) 0) → Part f row c → Part f out r

-- column c is told as lost besides
pub record One (c lost : ℕ) (at out : List ℕ) : Type 0 where
  pub sized : length out ≡ 16
  pub told : (g : ℕ → Bool) → g c ≡ true → Told g c lost at → Told g (c + 1) (lost + 1) out

-- these are told as lost
pub record Noted (first m end c lost : ℕ) (at : List ℕ) (r : ℕ) (out : List ℕ) : Type 0 where
  pub sized : length out ≡ 16
  pub reached : Reached first m end c r
  pub told : (g : ℕ → Bool) → ((x : ℕ) → c ≤ x → x < r → g x ≡ true) → Told g c lost at → Told g r (lost + (r - c)) out

-- of the row whose column 0 is byte `first`, all columns before c are gathered
pub record Gathered (p : Place) (s : List ℕ) (first c lost : ℕ) (row at : List ℕ) : Type 0 where
  pub within : c ≤ 255
  pub part : Part (byte_in p s first) row c
  pub told : Told (gone_in p s first) c lost at

-- a run begins with column c, in slot k
pub record Begins (p : Place) (s : List ℕ) (first k c lost : ℕ) (row at : List ℕ) : Type 0 where
  pub tabled : Tabled p (length s)
  pub low : first ≤ 2 ^ 47
  pub short : c < 255
  pub slot : k ≡ (first + c * p.rows) / p.slot
  pub gathered : Gathered p s first c lost row at

-- and has ended before column r
pub record Ended (p : Place) (s : List ℕ) (first c r lost : ℕ) (row at : List ℕ) : Type 0 where
  pub on : c < r
  pub gathered : Gathered p s first r lost row at

-- the byte step slots and rest bytes behind byte b of slot k, in slots of that size, is byte y of slot x
pub record Behind (k b step rest size x y : ℕ) : Type 0 where
  pub byte : y < size
  pub place : x * size + y ≡ k * size + b + (step * size + rest)

-- what taking column c alone asks, wherever it stands
pub record Alone (p : Place) (size : ℕ) (rows : Bool) (c lost : ℕ) (row at : List ℕ) : Type 0 where
  pub ends : end_of p ≤ size
  pub judged : rows ≡ in_rows p
  pub short : c < 255
  pub few : lost ≤ 255
  pub long : length row ≡ 255
  pub room : length at ≡ 16

-- the columns before c are gathered, and column c is byte b of slot k
pub record Stands (p : Place) (s : List ℕ) (first k b c lost : ℕ) (row at : List ℕ) : Type 0 where
  pub byte : b < p.slot
  pub place : k * p.slot + b ≡ first + c * p.rows
  pub gathered : Gathered p s first c lost row at

-- and then it is gathered besides
pub record Taken (p : Place) (s : List ℕ) (k b c lost : ℕ) (row at : List ℕ) (more : ℕ) (row' at' : List ℕ) : Type 0 where
  pub gathered : (first : ℕ) → Stands p s first k b c lost row at → Gathered p s first (c + 1) more row' at'

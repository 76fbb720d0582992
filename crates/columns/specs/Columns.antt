-- Hand out of a place in column order: document 02, R-8, behind the refusals 9, 10 and 15. Refusals in the order 23, 22, 31, 32, 24, 26; all of one before any of the next.
-- Assumes nothing.
use Rattle.std.specs.Prelude.{Bool, true, false, cond, not, ◌&&◌, List, [], ℕ, ◌+◌, ◌-◌, ◌*◌, min, eqb, leb, ltb, length, get_or, replicate}
use Rattle.ground.specs.Lists.{listed, ceil}
use Rattle.refusals.specs.declared.Refusal.{Refusal}
use Rattle.refusals.specs.declared.Refusal.TheVariants.{Slot, Shape, Size, Lost, Code}
use Rattle.code.specs.Search.{Repaired}
use Rattle.code.specs.Search.Repaired.{found, none}
use Rattle.code.specs.Restore.{lost_of, restore_of}
use Rattle.layout.specs.Layout.{tables_of, sent_spot}
use Rattle.places.specs.declared.Place.{Place}
use Rattle.places.specs.Room.{lowest_from}
use Rattle.contents.specs.Contents.{Slot as Content, contents, any_wrong}
use Rattle.losses.specs.Losses.{payload_at, row_came, lost_in, tabled}
use Rattle.columns.specs.Handing.{Handing, refusing, hand_tables}
use Rattle.std.specs.Prelude.{Result}
use Rattle.std.specs.Prelude.{Option}
use Rattle.std.specs.Prelude.{Some, None}

-- the bytes that were sent of a file of n bytes: all its tables
abbrev pub sent_length : ℕ → ℕ → ℕ
sent_length m n = 255 * m * tables_of m n

-- L is 1 to 16,777,216, and gives the count that the place has
unfoldable pub length_serves : Place → ℕ → Bool
length_serves p n = leb 1 n && (leb n 16777216 && eqb (ceil (sent_length p.rows n) p.slot) p.count)

-- slot k is filled, and has not S bytes, nor in the last slot what remains
unfoldable pub misfits : ℕ → ℕ → List Content → ℕ → Bool
misfits size total c k = not (eqb (length (payload_at c k)) 0) && not (eqb (length (payload_at c k)) (min size (total - k * size)))

-- row q lacks more than sixteen bytes
unfoldable pub lacks : ℕ → ℕ → List Content → ℕ → Bool
lacks m size c q = ltb 16 (lost_of (lost_in m size c q) 255)

-- row q restored: the coded row that has its known bytes
unfoldable pub row_restored : ℕ → ℕ → List Content → ℕ → Repaired
row_restored m size c q = restore_of (lost_in m size c q) (row_came m size c q)

abbrev pub is_none : Repaired → Bool
is_none (found s) = false
is_none none = true

-- there is none
unfoldable pub uncoded : ℕ → ℕ → List Content → ℕ → Bool
uncoded m size c q = is_none (row_restored m size c q)

abbrev pub row_in : Repaired → List ℕ
row_in (found s) = s
row_in none = []

-- all that was sent, every row restored
unfoldable pub restored : ℕ → ℕ → List Content → ℕ → List ℕ
restored m size c total =
    listed (λ j. get_or (row_in (row_restored m size c ((sent_spot 1 m j).table * m + (sent_spot 1 m j).row))) (sent_spot 1 m j).column 0) total 0

module _ (p : Place) (c : List Content) (n : ℕ) (out : List ℕ) where
  -- refusal 32 where some row's known bytes fit no coded row
  abbrev pub hand_coded : Option ℕ → Handing
  hand_coded (Some q) = refusing Code out
  hand_coded None = hand_tables 1 p.rows (restored p.rows p.slot c (sent_length p.rows n)) n out

  -- refusal 31 with the first row that lacks more than sixteen bytes
  abbrev pub hand_full : Option ℕ → Handing
  hand_full (Some q) = refusing (Lost q) out
  hand_full None = hand_coded (lowest_from (uncoded p.rows p.slot c) 0 (p.rows * tables_of p.rows n))

  -- refusal 22 where some filled slot has a wrong length
  abbrev pub hand_shaped : Option ℕ → Handing
  hand_shaped (Some k) = refusing Shape out
  hand_shaped None = hand_full (lowest_from (lacks p.rows p.slot c) 0 (p.rows * tables_of p.rows n))

  -- refusal 23 where L is out of its range, or gives another count
  unfoldable pub hand_columns : Handing
  hand_columns = cond (length_serves p n) (hand_shaped (lowest_from (misfits p.slot (sent_length p.rows n) c) 0 p.count)) (refusing Size out)

-- of one place: refusal 9 where no record has such a place in column order over this store, 15 where a slot is wrong
unfoldable pub hand_columns_of : Place → List ℕ → ℕ → List ℕ → Handing
hand_columns_of p s n out =
    cond (tabled p (length s)) (cond (any_wrong (contents p s)) (refusing Slot out) (hand_columns p (contents p s) n out)) (refusing Refusal.Record out)

-- what is answered where the output has room: every refusal but 26
unfoldable pub weighed_of : Place → List ℕ → ℕ → Result (Unit {0}) Refusal
weighed_of p s n = (hand_columns_of p s n (replicate n 0)).answer

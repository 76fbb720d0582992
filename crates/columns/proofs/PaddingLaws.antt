-- The restored rows hold 0 beyond byte n of the file exactly if every padding position does: document 02, R-8, refusal 24. A position of the file is one column of one row.
-- Assumes nothing.
use mathlib.Core.Path.{◌≡◌, refl, sym, ap, ap₂, ◌∙◌}
use mathlib.Core.Bool.{Bool, true, false, not}
use mathlib.Core.List.{List}
use Prim.Native.Nat.{ℕ, ◌+◌, ◌-◌, ◌*◌, ◌/◌, ◌%◌, ◌<◌, ◌≤◌}
use native.Mathlib.Nat.{mul_comm, mod-lt, div-add-mod', div-lt_iff_lt-mul, zero-lt-suc}
use native.Mathlib.Omega.{arith}
use lib.Arith.{digits_lt, digits_div, digits_mod}
use lib.ListN.{get_or}
use Rattle.ground.proofs.Listed.{length-listed, get_or-listed, get_or-listed_0}
use Rattle.ground.proofs.Truth.{differ, not_no}
use Rattle.layout.specs.Layout.{Spot, file_byte_at, spot_of, sent_byte_at, sent_spot, read_back, undone}
use Rattle.layout.specs.Spread.{row_start}
use Rattle.layout.proofs.Places.{file_rule, sent_rule, table_below, byte-below}
use Rattle.places.specs.Room.{lowest_from}
use Rattle.contents.specs.Contents.{Slot as Content}
use Rattle.columns.specs.Handing.{all_zero}
use Rattle.columns.specs.Columns.{row_restored, row_in, restored}
use Rattle.columns.specs.InnerJudge.{is_nothing, beyond_in, spoilt}
use Rattle.columns.proofs.Lowest.{none_passes, passes_none}
use Rattle.columns.proofs.ZeroLaws.{both_ways, zero_all, all_zero_lem, beyond_each, each_beyond}

module _ (m : ℕ) (h : 0 < m) (size : ℕ) (c : List Content) (n t : ℕ) where
  -- column k of row q
  abbrev spot_in : ℕ → ℕ → Spot
  spot_in q k = record { table = q / m; row = q % m; column = k }

  abbrev row_at : ℕ → List ℕ
  row_at q = row_in (row_restored m size c q)

  abbrev sent : List ℕ
  sent = restored m size c (255 * m * t)

  byte_in_lem : (q k : ℕ) → row_start m q + k * m ≡ file_byte_at m (spot_in q k)
  byte_in_lem q k = omega arith

  table_in : (q : ℕ) → q < m * t → q / m < t
  table_in q l = (div-lt_iff_lt-mul {k = m} {x = q} {y = t} h).1 (omega (arith, mul_comm m t))

  -- what was sent holds it
  sent_in_lem : (q k : ℕ) → q < m * t → k < 255 → get_or (restored m size c (255 * m * t)) (sent_byte_at 1 m (spot_in q k)) 0 ≡ get_or (row_in (row_restored m size c q)) k 0
  unfolding restored
  sent_in_lem q k l b =
      let j : ℕ = sent_byte_at 1 m (spot_in q k) in
      let below : sent_byte_at 1 m (spot_in q k) < 255 * m * t = byte-below m 255 (sent_byte_at 1 m) (sent_spot 1 m) h (zero-lt-suc 254) (sent_rule 1 m h) t (spot_in q k) (table_in q l) (mod-lt q h) b in
      let s : sent_spot 1 m (sent_byte_at 1 m (spot_in q k)) ≡ spot_in q k = (sent_rule 1 m h).spot_of_byte (spot_in q k) (mod-lt q h) b in
      get_or-listed_0 (λ j. get_or (row_in (row_restored m size c ((sent_spot 1 m j).table * m + (sent_spot 1 m j).row))) (sent_spot 1 m j).column 0) (255 * m * t) (sent_byte_at 1 m (spot_in q k)) 0 below
      ∙ ap (λ (x : Spot). get_or (row_in (row_restored m size c (x.table * m + x.row))) x.column 0) s
      ∙ ap (λ (x : ℕ). get_or (row_in (row_restored m size c x)) k 0) (div-add-mod' q m)

  -- it is read back as byte x of the file, if that is its position
  read_in : (q k x : ℕ) → q < m * t → k < 239 → file_byte_at m (spot_in q k) ≡ x → read_back 1 m (restored m size c (255 * m * t)) x ≡ get_or (row_in (row_restored m size c q)) k 0
  read_in q k x l b e =
      let s : spot_of m x ≡ spot_in q k = ap (spot_of m) (sym e) ∙ (file_rule m h).spot_of_byte (spot_in q k) (mod-lt q h) b in
      ap (λ (y : Spot). get_or (restored m size c (255 * m * t)) (sent_byte_at 1 m y) 0) s ∙ sent_in_lem q k l (omega arith)

  -- the row and the column of byte x
  row_of : ℕ → ℕ
  row_of x = (spot_of m x).table * m + (spot_of m x).row

  position : (x : ℕ) → file_byte_at m (spot_in (row_of x) (spot_of m x).column) ≡ x
  unfolding row_of
  position x =
      let a : row_of x / m ≡ (spot_of m x).table = digits_div (spot_of m x).table (mod-lt x h) in
      let b : row_of x % m ≡ (spot_of m x).row = digits_mod (spot_of m x).table (mod-lt x h) in
      ap₂ (λ (y z : ℕ). file_byte_at m (record { table = y; row = z; column = (spot_of m x).column })) a b ∙ (file_rule m h).byte_of_spot x

  row_below : (x : ℕ) → x < 239 * m * t → row_of x < m * t
  unfolding row_of
  row_below x l =
      let g : (spot_of m x).table < t = table_below m 239 (file_byte_at m) (spot_of m) h (zero-lt-suc 238) (file_rule m h) t x l in
      omega (arith, digits_lt g (mod-lt x h), mul_comm t m)

  -- the padding positions
  abbrev beyond : List ℕ
  beyond = undone 1 m (restored m size c (255 * m * t)) (239 * m * t - n) n

  beyond-at : (x : ℕ) → n ≤ x → x < 239 * m * t → get_or beyond (x - n) 0 ≡ read_back 1 m (restored m size c (255 * m * t)) x
  beyond-at x a b =
      let e : n + (x - n) ≡ x = omega arith in
      get_or-listed (read_back 1 m (restored m size c (255 * m * t))) (239 * m * t - n) n (x - n) 0 (omega arith) ∙ ap (read_back 1 m (restored m size c (255 * m * t))) e

  unspoilt : (q : ℕ) → spoilt m size c n q ≡ false → all_zero (beyond_in m n q (row_in (row_restored m size c q))) ≡ true
  unfolding spoilt
  unspoilt q = by (all_zero (beyond_in m n q (row_in (row_restored m size c q))))
    where
      by : (b : Bool) → not b ≡ false → b ≡ true
      by true e = refl
      by false e = differ e

  zero_unspoilt : (q : ℕ) → all_zero (beyond_in m n q (row_in (row_restored m size c q))) ≡ true → spoilt m size c n q ≡ false
  unfolding spoilt
  zero_unspoilt q e = not_no e

  rows_zero : is_nothing (lowest_from (spoilt m size c n) 0 (m * t)) ≡ true → all_zero beyond ≡ true
  rows_zero e =
      all_zero_lem beyond (λ i l.
      let b : i < 239 * m * t - n = omega (arith, length-listed (read_back 1 m (restored m size c (255 * m * t))) (239 * m * t - n) n) in
      let q : ℕ = row_of (n + i) in
      let k : ℕ = (spot_of m (n + i)).column in
      let k' : k < 239 = (file_rule m h).column-below (n + i) in
      let q' : q < m * t = row_below (n + i) (omega arith) in
      get_or-listed (read_back 1 m (restored m size c (255 * m * t))) (239 * m * t - n) n i 0 b ∙ read_in q k (n + i) q' k' (position (n + i))
      ∙ beyond_each m n q (row_in (row_restored m size c q)) (unspoilt q (none_passes (spoilt m size c n) (m * t) e q q')) k k'
      (omega (arith, byte_in_lem q k, position (n + i))))

  zero_rows : all_zero beyond ≡ true → is_nothing (lowest_from (spoilt m size c n) 0 (m * t)) ≡ true
  zero_rows e =
      passes_none (spoilt m size c n) (m * t) (λ q l.
      zero_unspoilt q (each_beyond m n q (row_in (row_restored m size c q)) (λ k b a.
      let x : ℕ = file_byte_at m (spot_in q k) in
      let y : x < 239 * m * t = byte-below m 239 (file_byte_at m) (spot_of m) h (zero-lt-suc 238) (file_rule m h) t (spot_in q k) (table_in q l) (mod-lt q h) b in
      let a' : n ≤ x = omega (arith, byte_in_lem q k) in
      sym (beyond-at x a' y ∙ read_in q k x l b refl) ∙ zero_all beyond e (x - n))))

  pub padding_told : is_nothing (lowest_from (spoilt m size c n) 0 (m * t)) ≡ all_zero (undone 1 m (restored m size c (255 * m * t)) (239 * m * t - n) n)
  padding_told = both_ways (is_nothing (lowest_from (spoilt m size c n) 0 (m * t))) (all_zero beyond) rows_zero zero_rows

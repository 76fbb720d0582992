-- Bytes that are sent by columns: which byte of its table one is, that those of the information columns are the file's own bytes in order, and a part of what is sent as a list of
-- them. Assumes nothing.
use mathlib.Core.Path.{◌≡◌, sym, ap, ap₂, ◌∙◌}
use mathlib.Core.List.{List}
use Prim.Native.Nat.{ℕ, ◌+◌, ◌*◌, ◌/◌, ◌%◌, ◌<◌, ◌≤◌}
use native.Mathlib.Nat.{zero-add, add-mul, mod-lt, div-add-mod', div-lt_iff_lt-mul}
use native.Mathlib.Omega.{arith}
use lib.Arith.{digits_div, digits_mod}
use lib.ListN.{length, get_or}
use lib.Seq.{sets}
use Rattle.ground.specs.Lists.{listed}
use Rattle.ground.proofs.Listed.{length-listed, slice_listed, listed_same}
use Rattle.layout.specs.Layout.{Spot, tables_of, sent_spot, row_of, coded_at, coded_file}
use Rattle.layout.proofs.Places.{sent_rule}
use Rattle.layout.proofs.Coded.{coded_at_lem}
use Rattle.laying.specs.Lay.{part_of}
use Rattle.laying.specs.InnerLay.{sent_byte, table_byte}

-- ---- one byte

-- the spot of byte p of a table
abbrev spot : ℕ → ℕ → ℕ → Spot
spot m t p = record { table = t; row = p % m; column = p / m }

module _ (m : ℕ) (h : 0 < m) (file : List ℕ) (t : ℕ) where
  -- of what is sent, byte p of table t
  sent_in_lem : (p : ℕ) → p < 255 * m → sent_byte m file (t * (255 * m) + p) ≡ table_byte m file t p
  unfolding sent_byte table_byte
  sent_in_lem p l =
      let e : t * (255 * m) + p / m * m + p % m ≡ t * (255 * m) + p = omega (arith, div-add-mod' p m) in
      ap (coded_at m file) (ap (sent_spot 1 m) (sym e) ∙ (sent_rule 1 m h).spot_of_byte (spot m t p) (mod-lt p h) ((div-lt_iff_lt-mul h).1 l))

  -- the information columns are the file's own bytes in order
  info_in_lem : (p : ℕ) → p < 239 * m → table_byte m file t p ≡ get_or file (t * (239 * m) + p) 0
  unfolding table_byte
  info_in_lem p l =
      let e : t * (239 * m) + p / m * m + p % m ≡ t * (239 * m) + p = omega (arith, div-add-mod' p m) in
      coded_at_lem m file (spot m t p) ((div-lt_iff_lt-mul h).1 l) ∙ ap (λ (x : ℕ). get_or file x 0) e

  -- the bytes of one row stand m apart
  pub row_in_lem : (p q : ℕ) → table_byte m file t (p + q * m) ≡ get_or (row_of m file t (p % m)) (p / m + q) 0
  unfolding table_byte
  row_in_lem p q =
      let e : p + q * m ≡ (p / m + q) * m + p % m = omega (arith, div-add-mod' p m, add-mul (p / m) q m) in
      ap₂ (λ (r c : ℕ). get_or (row_of m file t r) c 0)
      (ap (λ (x : ℕ). x % m) e ∙ digits_mod (p / m + q) (mod-lt p h))
      (ap (λ (x : ℕ). x / m) e ∙ digits_div (p / m + q) (mod-lt p h))

-- ---- runs

module _ (m : ℕ) (h : 0 < m) (file : List ℕ) (j n : ℕ) where
  in_table : j % (255 * m) + n ≤ 255 * m → listed (table_byte m file (j / (255 * m))) n (j % (255 * m)) ≡ listed (sent_byte m file) n j
  in_table l =
      listed_same (table_byte m file (j / (255 * m))) (sent_byte m file) n (j % (255 * m)) j
      (λ k b.
      let e : j / (255 * m) * (255 * m) + (j % (255 * m) + k) ≡ j + k = omega (arith, div-add-mod' j (255 * m)) in
      sym (sent_in_lem m h file (j / (255 * m)) (j % (255 * m) + k) (omega arith)) ∙ ap (sent_byte m file) e)

  in_file : j % (255 * m) + n ≤ 239 * m
      → listed (λ k. get_or file k 0) n (j / (255 * m) * (239 * m) + j % (255 * m)) ≡ listed (table_byte m file (j / (255 * m))) n (j % (255 * m))
  in_file l =
      listed_same (λ k. get_or file k 0) (table_byte m file (j / (255 * m))) n (j / (255 * m) * (239 * m) + j % (255 * m)) (j % (255 * m))
      (λ k b.
      let e : j / (255 * m) * (239 * m) + j % (255 * m) + k ≡ j / (255 * m) * (239 * m) + (j % (255 * m) + k) = omega arith in
      ap (λ (x : ℕ). get_or file x 0) e ∙ sym (info_in_lem m h file (j / (255 * m)) (j % (255 * m) + k) (omega arith)))

  module _ (out next : List ℕ) (o : ℕ) where
    -- bytes of one table, written
    pub table-run : j % (255 * m) + n ≤ 255 * m → next ≡ sets out o (listed (table_byte m file (j / (255 * m))) n (j % (255 * m)))
        → next ≡ sets out o (listed (sent_byte m file) n j)
    table-run l e = e ∙ ap (sets out o) (in_table l)

    -- bytes of the file, written for those of information columns
    pub info_run : j % (255 * m) + n ≤ 239 * m → next ≡ sets out o (listed (λ k. get_or file k 0) n (j / (255 * m) * (239 * m) + j % (255 * m)))
        → next ≡ sets out o (listed (sent_byte m file) n j)
    info_run l e = e ∙ ap (sets out o) (in_file l ∙ in_table (omega arith))

-- ---- a part

pub part-listed : (m : ℕ) (file : List ℕ) (from n : ℕ) → from + n ≤ 255 * m * tables_of m (length file) → part_of m file from n ≡ listed (sent_byte m file) n from
unfolding part_of sent_byte coded_file
part-listed m file from n l =
    slice_listed (λ j. coded_at m file (sent_spot 1 m j)) (255 * m * tables_of m (length file)) 0 from n l
    ∙ ap (listed (λ j. coded_at m file (sent_spot 1 m j)) n) (zero-add from)

pub length_part : (m : ℕ) (file : List ℕ) (from n : ℕ) → from + n ≤ 255 * m * tables_of m (length file) → length (part_of m file from n) ≡ n
length_part m file from n l = ap length (part-listed m file from n l) ∙ length-listed (sent_byte m file) n from

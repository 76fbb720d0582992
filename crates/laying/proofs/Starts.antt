-- Rows of a file's tables start early enough to be asked of `put_rows`, which then gives the row. And the tables are so few that their bytes can be counted.
-- Assumes nothing.
use mathlib.Core.Path.{◌≡◌, ap, ◌∙◌, sym}
use mathlib.Core.Bool.{Bool}
use mathlib.Core.List.{List}
use Prim.Native.Nat.{ℕ, ◌+◌, ◌-◌, ◌*◌, ◌/◌, ◌<◌, ◌≤◌}
use native.Mathlib.Nat.{add-zero, mul_assoc, mul_comm, mul_left_comm, mul-pos, mul-le-mul_right, zero-lt-suc, le-div_iff_mul-le}
use native.Mathlib.Omega.{arith}
use lib.Dec.{T, leb, leb→le}
use lib.ListN.{length}
use Rattle.ground.proofs.Sweep.{all, below}
use Rattle.ground.proofs.Listed.{ceil-below, ceil-short}
use Rattle.ground.proofs.Writing.{sets-all}
use Rattle.ground.proofs.Pieces.{pieces_one}
use Rattle.encoding.specs.Encode.{coded_row}
use Rattle.filling.specs.Put.{info_from, rows_from, put_verdict, put_rows}
use Rattle.filling.proofs.Gathering.{length-rows}
use Rattle.filling.proofs.Serving.{serves_where, put_accepted, put-done}
use Rattle.layout.specs.Layout.{tables_of, info_of, row_of}
use Rattle.layout.proofs.Coded.{info_from_lem}
use Rattle.laying.specs.InnerLay.{Table}
use Rattle.std.specs.Prelude.{Ok}

-- all bytes of the tables: about two for each byte of the file
pub tables_few : (m len : ℕ) → 0 < m → 255 * m * tables_of m len ≤ 2 * (len + 239 * m)
tables_few m len h =
    let u : tables_of m len * (239 * m) < len + 239 * m = ceil-short len (239 * m) (mul-pos (zero-lt-suc 238) h) in
    omega (arith, mul_assoc 255 m (tables_of m len), mul_left_comm (tables_of m len) 239 m, mul_comm (tables_of m len) m)

-- a row starts within the largest file, also where its own bytes lie beyond the file: of each M the last table of the longest file begins early enough
early : ℕ → Bool
early m = leb (16777215 / (239 * m) * (239 * m) + (m - 1)) 16777216

all_early : T (all early 256)
unfolding early
all_early = tt

pub start_below : (m t r : ℕ) → 0 < m → m ≤ 255 → t * (239 * m) ≤ 16777215 → r < m → t * (239 * m) + r ≤ 16777216
unfolding early
start_below m t r p l h k =
    let w : 0 < 239 * m = mul-pos (zero-lt-suc 238) p in
    let a : t ≤ 16777215 / (239 * m) = (le-div_iff_mul-le w).1 h in
    let b : t * (239 * m) ≤ 16777215 / (239 * m) * (239 * m) = mul-le-mul_right (239 * m) a in
    let c : 16777215 / (239 * m) * (239 * m) + (m - 1) ≤ 16777216 = leb→le _ _ (below early 256 all_early m (omega arith)) in
    omega arith

module _ (file : List ℕ) (m t : ℕ) (is : Table (length file) m t) where
  -- the table begins within the file
  pub table_start : t * (239 * m) < length file
  table_start = ceil-below (length file) (239 * m) t (mul-pos (zero-lt-suc 238) is.rows) is.there

  module _ (r : ℕ) (l : r < m) where
    pub row_start_lem : t * (239 * m) + r ≤ 16777216
    row_start_lem =
        let b : t * (239 * m) < length file = table_start in
        let n : length file ≤ 16777216 = is.len-most in
        start_below m t r is.rows is.rows-most (omega arith) l

    one_row : rows_from file m (t * (239 * m) + r) 1 ≡ row_of m file t r
    unfolding rows_from coded_row info_from row_of
    one_row =
        pieces_one (λ j. coded_row (info_from file m j)) (t * (239 * m) + r)
        ∙ ap (λ (i : ℕ). coded_row (info_from file m i)) (sym (add-zero (t * (239 * m) + r)))
        ∙ ap coded_row (sym (info_from_lem m file t r 0)) ∙ ap (λ (i : ℕ). coded_row (info_of m file t i)) (add-zero r)

    -- a row's buffer then holds the row
    pub row_put : (buffer : List ℕ) → length buffer ≡ 255 → put_rows file m (t * (239 * m) + r) 1 buffer ≡ row_of m file t r
    row_put buffer e =
        let s : put_verdict (length file) m (t * (239 * m) + r) 1 (length buffer) ≡ (Ok tt) =
        put_accepted (length file) m (t * (239 * m) + r) 1 (length buffer)
        (serves_where (length file) m (t * (239 * m) + r) 1 is.rows is.rows-most (omega arith) row_start_lem is.len-most) (omega arith) in
        sym (put-done file m (t * (239 * m) + r) 1 buffer s (omega arith))
        ∙ sets-all buffer (rows_from file m (t * (239 * m) + r) 1) (length-rows file m (t * (239 * m) + r) 1 ∙ omega arith) ∙ one_row

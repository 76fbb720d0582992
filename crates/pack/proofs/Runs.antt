-- Rows of the coded file, written run by run: rows that follow each other are written one run behind the other, and what a run writes is what `put_rows` gives.
-- Assumes nothing.
use mathlib.Core.Path.{◌≡◌, sym, ap, ◌∙◌}
use mathlib.Core.List.{List, ◌++◌, flatten}
use Prim.Native.Nat.{ℕ, ◌+◌, ◌-◌, ◌*◌, ◌/◌, ◌%◌, ◌^◌, ◌<◌, ◌≤◌}
use native.Mathlib.Nat.{add-zero, mul_assoc, mul_comm, add-mul, mul-pos, zero-lt-suc, mod-lt, div-lt_iff_lt-mul}
use native.Mathlib.Omega.{arith}
use borrow.Rule.Slice.PartMut.{put_mid}
use lib.ListN.{length, take, drop, length-take, length-drop}
use lib.Seq.{sets, take-add, drop-drop}
use Rattle.ground.proofs.Listed.{listed_same, ceil-below}
use Rattle.ground.proofs.Writing.{sets-append, lent-sets}
use Rattle.encoding.specs.Encode.{coded_row}
use Rattle.filling.specs.Put.{info_from, rows_from, put_verdict, put_rows}
use Rattle.filling.proofs.Serving.{serves_where, put_accepted, put-done}
use Rattle.layout.specs.Layout.{tables_of, row_of, coded_file}
use Rattle.layout.specs.Spread.{row_start}
use Rattle.layout.proofs.Coded.{info_from_lem, length-coded, row-behind, coded_rows_lem}
use Rattle.pack.specs.Inner.{coded_rows, RunFits}
use Rattle.laying.proofs.Starts.{tables_few, start_below}
use Rattle.std.specs.Prelude.{Ok}

module _ (file : List ℕ) (m q n room at : ℕ) (fits : RunFits file m q n room at) where
  -- so few that they can be counted
  pub run-below : q + n ≤ 16777216
  run-below =
      let b : 255 * m * tables_of m (length file) ≤ 2 * (length file + 239 * m) = tables_few m (length file) fits.rows in
      let a : m ≤ 255 = fits.rows-most in
      let l : length file ≤ 16777216 = fits.len in
      let t : q + n ≤ m * tables_of m (length file) = fits.there in
      omega (arith, mul_assoc 255 m (tables_of m (length file)))

  -- what is left after k of them
  pub run-next : (k room' at' : ℕ) → k ≤ n → room' ≡ room → at' ≡ at + k * 255 → RunFits file m (q + k) (n - k) room' at'
  run-next k room' at' l e f =
      let t : q + n ≤ m * tables_of m (length file) = fits.there in
      let r : at + n * 255 ≤ room = fits.enough in
      record {
        rows = fits.rows;
        rows-most = fits.rows-most;
        len = fits.len;
        few = omega (arith, fits.few);
        there = omega arith;
        enough = omega arith;
      }

  pub length_run : (k : ℕ) → k ≤ n → length (coded_rows file m q k) ≡ k * 255
  length_run k l =
      let t : q + n ≤ m * tables_of m (length file) = fits.there in
      length-take (k * 255) (drop (q * 255) (coded_file 0 m file))
      ∙ omega (arith, length-drop (q * 255) (coded_file 0 m file), length-coded 0 m file, mul_assoc 255 m (tables_of m (length file)))

  -- k of them written, and then j more
  pub run_more : (out : List ℕ) (k j : ℕ) → k ≤ n → sets (sets out 0 (coded_rows file m q k)) (k * 255) (coded_rows file m (q + k) j) ≡ sets out 0 (coded_rows file m q (k + j))
  run_more out k j l =
      let e : k * 255 ≡ 0 + length (coded_rows file m q k) = omega (arith, length_run k l) in
      let d : q * 255 + k * 255 ≡ (q + k) * 255 = sym (add-mul q k 255) in
      ap (λ (x : ℕ). sets (sets out 0 (coded_rows file m q k)) x (coded_rows file m (q + k) j)) e
      ∙ sym (sets-append out 0 (coded_rows file m q k) (coded_rows file m (q + k) j))
      ∙ ap (sets out 0)
      (ap (λ (x : List ℕ). coded_rows file m q k ++ take (j * 255) x) (ap (λ (x : ℕ). drop x (coded_file 0 m file)) (sym d) ∙ sym (drop-drop (k * 255) (q * 255) (coded_file 0 m file)))
      ∙ sym (take-add (k * 255) (j * 255) (drop (q * 255) (coded_file 0 m file)))
      ∙ ap (λ (x : ℕ). take x (drop (q * 255) (coded_file 0 m file))) (sym (add-mul k j 255)))

-- ---- one run: rows that lie in one table

module _ (file : List ℕ) (m q n room at : ℕ) (fits : RunFits file m q n room at) (some : 0 < n) where
  pub run_start : q / m * (239 * m) + q % m ≤ 16777216
  run_start =
      let t : q + n ≤ m * tables_of m (length file) = fits.there in
      let e : q / m < tables_of m (length file) = (div-lt_iff_lt-mul fits.rows).1 (omega (arith, mul_comm m (tables_of m (length file)))) in
      let b : q / m * (239 * m) < length file = ceil-below (length file) (239 * m) (q / m) (mul-pos (zero-lt-suc 238) fits.rows) e in
      let l : length file ≤ 16777216 = fits.len in
      start_below m (q / m) (q % m) fits.rows fits.rows-most (omega arith) (mod-lt q fits.rows)

  -- k of them, up to the end of the table
  module _ (k : ℕ) (l : k ≤ n) (inside : q % m + k ≤ m) where
    pub run-rows : rows_from file m (q / m * (239 * m) + q % m) k ≡ coded_rows file m q k
    unfolding rows_from coded_row info_from row_of
    run-rows =
        let t : q + n ≤ m * tables_of m (length file) = fits.there in
        sym
        (coded_rows_lem m fits.rows file q k (omega arith)
        ∙ ap flatten
        (listed_same (λ i. row_of m file (i / m) (i % m)) (λ j. coded_row (info_from file m j)) k q (q / m * (239 * m) + q % m)
        (λ i h. row-behind m fits.rows file q i (omega arith) ∙ ap coded_row (info_from_lem m file (q / m) (q % m) i))))

    -- such a call is served
    pub run_accepted : (o : ℕ) → k * 255 ≤ o → put_verdict (length file) m (q / m * (239 * m) + q % m) k o ≡ (Ok tt)
    run_accepted o h =
        put_accepted (length file) m (q / m * (239 * m) + q % m) k o
        (serves_where (length file) m (q / m * (239 * m) + q % m) k fits.rows fits.rows-most (omega (arith, fits.few)) run_start fits.len) h

    -- written in the part of the output that is lent, from byte `at` on, as the code reckons where the run begins
    pub run-written : (out x : List ℕ) (b : ℕ) → b ≡ row_start m q % 2 ^ 64 → length out ≡ room → x ≡ put_rows file m b k (take (length out - at) (drop at out))
        → put_mid at (length out - at) out x ≡ sets out at (coded_rows file m q k)
    run-written out x b f e w =
        let part : List ℕ = take (length out - at) (drop at out) in
        let r : at + n * 255 ≤ room = fits.enough in
        let s : b ≡ q / m * (239 * m) + q % m = omega (arith, f, run_start) in
        let d : length part ≡ length out - at = length-take (length out - at) (drop at out) ∙ omega (arith, length-drop at out) in
        ap (put_mid at (length out - at) out)
        (w ∙ ap (λ (i : ℕ). put_rows file m i k part) s ∙ sym (put-done file m (q / m * (239 * m) + q % m) k part (run_accepted (length part) (omega arith)) (omega arith)) ∙ ap (sets part 0) run-rows)
        ∙ lent-sets at (coded_rows file m q k) out 0 (omega arith) ∙ ap (λ (i : ℕ). sets out i (coded_rows file m q k)) (add-zero at)

-- A part of what is sent, written run by run: it is short enough to be counted, each of its bytes lies in a table of the file, and what is left of it behind a run is such a part.
-- Assumes nothing.
use mathlib.Core.Path.{◌≡◌, sym, ap, ap₂, ◌∙◌}
use mathlib.Core.List.{List}
use Prim.Native.Nat.{ℕ, ◌+◌, ◌-◌, ◌*◌, ◌/◌, ◌%◌, ◌<◌, ◌≤◌}
use native.Mathlib.Nat.{add-zero, zero-add, mul_comm, mul-pos, mod-lt, zero-lt-suc, div-lt_iff_lt-mul}
use native.Mathlib.Omega.{arith}
use lib.ListN.{length}
use lib.Seq.{sets}
use Rattle.ground.specs.Lists.{listed}
use Rattle.ground.proofs.Listed.{listed_shift}
use Rattle.ground.proofs.Writing.{Run, run_jump, run_end}
use Rattle.layout.specs.Layout.{tables_of}
use Rattle.laying.specs.InnerLay.{Table, Part}
use Rattle.laying.proofs.Starts.{tables_few, table_start}

module _ (len m j n room o : ℕ) (fits : Part len m j n room o) where
  pub part-below : j + n ≤ 33676322
  part-below =
      let b : 255 * m * tables_of m len ≤ 2 * (len + 239 * m) = tables_few m len fits.rows in
      let a : m ≤ 255 = fits.rows-most in
      let l : len ≤ 16777216 = fits.len-most in
      let t : j + n ≤ 255 * m * tables_of m len = fits.there in
      omega arith

  -- what is left behind k bytes
  pub part-next : (k room' o' : ℕ) → k ≤ n → room' ≡ room → o' ≡ o + k → Part len m (j + k) (n - k) room' o'
  part-next k room' o' l e f =
      let t : j + n ≤ 255 * m * tables_of m len = fits.there in
      let r : o + n ≤ room = fits.enough in
      record {
        rows = fits.rows;
        rows-most = fits.rows-most;
        len-most = fits.len-most;
        few = omega (arith, fits.few);
        there = omega arith;
        enough = omega arith;
      }

  -- its first byte lies in a table of the file
  pub part-table : 0 < n → Table len m (j / (255 * m))
  part-table h =
      let t : j + n ≤ 255 * m * tables_of m len = fits.there in
      record {
        rows = fits.rows;
        rows-most = fits.rows-most;
        len-most = fits.len-most;
        there = (div-lt_iff_lt-mul (mul-pos (zero-lt-suc 254) fits.rows)).1 (omega (arith, mul_comm (255 * m) (tables_of m len)));
      }

-- of its table no byte stands so far in the file that it could not be counted
pub part_start : (file : List ℕ) (m j n room o : ℕ) → Part (length file) m j n room o → 0 < n → j / (255 * m) * (239 * m) + j % (255 * m) ≤ 16842240
part_start file m j n room o fits h =
    let b : j / (255 * m) * (239 * m) < length file = table_start file m (j / (255 * m)) (part-table (length file) m j n room o fits h) in
    let p : j % (255 * m) < 255 * m = mod-lt j (mul-pos (zero-lt-suc 254) fits.rows) in
    let a : m ≤ 255 = fits.rows-most in
    let e : length file ≤ 16777216 = fits.len-most in
    omega arith

-- ---- run by run: x of n bytes are written

module _ (f : ℕ → ℕ) (from n : ℕ) (out₀ out : List ℕ) (x : ℕ) (run : Run (λ k. f (from + k)) n 0 out₀ out x) where
  pub part-more : (next : List ℕ) (r : ℕ) → x + r ≤ n → next ≡ sets out x (listed f r (from + x)) → Run (λ k. f (from + k)) n 0 out₀ next (x + r)
  part-more next r h e =
      run_jump (λ k. f (from + k)) n 0 out₀ out x run r next h
      (e ∙ ap₂ (λ (p : ℕ) (l : List ℕ). sets out p l) (sym (zero-add x)) (listed_shift f r from x))

  pub part-done : n ≤ x → out ≡ sets out₀ 0 (listed f n from)
  part-done h =
      run_end (λ k. f (from + k)) n 0 out₀ out x run h ∙ ap (sets out₀ 0) (sym (listed_shift f n from 0) ∙ ap (listed f n) (add-zero from))

-- The information of rows taken out of the file: what the loops of `gather` and `fill` keep.
-- Assumes nothing.
use mathlib.Core.Path.{◌≡◌, sym, ap, ◌∙◌, subst}
use mathlib.Core.Logic.{◌⊎◌, inl, inr}
use mathlib.Core.List.{List, flatten}
use Prim.Native.Nat.{ℕ, ◌+◌, ◌-◌, ◌*◌, ◌/◌, ◌<◌, ◌≤◌}
use native.Mathlib.Nat.{add-mul, mul-le-mul, mul-le-mul_right}
use native.Mathlib.Omega.{arith}
use lib.ListN.{length, get_or}
use lib.Seq.{sets, length-sets}
use Rattle.ground.specs.Lists.{listed}
use Rattle.ground.proofs.Listed.{length-listed, listed_same, le_or_lt}
use Rattle.ground.proofs.Writing.{sets-all, Run, run_jump}
use Rattle.ground.proofs.Pieces.{length-pieces}
use Rattle.encoding.specs.Encode.{coded_row, checked_row, checked_of}
use Rattle.encoding.specs.InnerRegister.{part}
use Rattle.encoding.proofs.Parts.{part_same, part-sets, sets-beside}
use Rattle.encoding.proofs.Checking.{length-coded}
use Rattle.filling.specs.InnerColumn.{column}
use Rattle.filling.specs.Put.{info_from, rows_from}

-- ---- places in the file

-- byte c of a row stands so near that it can be counted
pub near : (c m : ℕ) → c ≤ 239 → m ≤ 255 → c * m ≤ 60945
near c m h j = mul-le-mul {n₁ = c} {m₁ = m} {n₂ = 239} {m₂ = 255} h j

-- no further than byte k, if that comes behind it
pub before : (c k m : ℕ) → c ≤ k → c * m ≤ k * m
before c k m h = mul-le-mul_right {m = c} {n = k} m h

-- ---- the information of one row

-- n bytes from byte i on: bytes of the same column
column_from : (file : List ℕ) (m at i n : ℕ) → column file m (at + i * m) n ≡ listed (λ c. get_or file (at + c * m) 0) n i
column_from file m at i n =
    listed_same (λ c. get_or file (at + i * m + c * m) 0) (λ c. get_or file (at + c * m) 0) n 0 i
    (λ k h.
    let z : 0 + k ≡ k = omega arith in
    let e : at + i * m + k * m ≡ at + (i + k) * m = omega (arith, add-mul i k m) in
    ap (λ (c : ℕ). get_or file (at + i * m + c * m) 0) z ∙ ap (λ (j : ℕ). get_or file j 0) e)

module _ (file : List ℕ) (m at o k : ℕ) (out₀ out next : List ℕ) (run : Run (λ j. get_or file (at + j * m) 0) 239 o out₀ out (k * 8)) where
  -- eight bytes more
  pub eight_more : (k + 1) * 8 ≤ 239 → next ≡ sets out (o + k * 8) (column file m (at + k * 8 * m) 8)
      → Run (λ j. get_or file (at + j * m) 0) 239 o out₀ next ((k + 1) * 8)
  eight_more h e =
      let z : k * 8 + 8 ≡ (k + 1) * 8 = omega arith in
      subst (Run (λ j. get_or file (at + j * m) 0) 239 o out₀ next) z
      (run_jump (λ j. get_or file (at + j * m) 0) 239 o out₀ out (k * 8) run 8 next (omega arith) (e ∙ ap (sets out (o + k * 8)) (column_from file m at (k * 8) 8)))

  -- all that are left, behind n times eight
  pub row-gathered : (n : ℕ) → next ≡ sets out (o + n * 8) (column file m (at + n * 8 * m) (239 - n * 8)) → n ≡ k → next ≡ sets out₀ o (info_from file m at)
  unfolding info_from
  row-gathered n e d =
      e ∙ ap (λ (x : ℕ). sets out (o + x * 8) (column file m (at + x * 8 * m) (239 - x * 8))) d
      ∙ ap (sets out (o + k * 8)) (column_from file m at (k * 8) (239 - k * 8)) ∙ run.rest

-- ---- rows

module _ (file : List ℕ) (m : ℕ) where
  length_info : (i : ℕ) → length (info_from file m i) ≡ 239
  unfolding info_from
  length_info i = length-listed (λ c. get_or file (i + c * m) 0) 239 0

  pub length-rows : (i n : ℕ) → length (rows_from file m i n) ≡ n * 255
  unfolding rows_from
  length-rows i n = length-pieces (λ j. coded_row (info_from file m j)) 255 (λ j. length-coded (info_from file m j) (length_info j)) n i

-- r of n rows have their information
pub record Filling (file : List ℕ) (m at n : ℕ) (rows : List ℕ) (r : ℕ) : Type 0 where
  pub within : r ≤ n
  pub long : length rows ≡ n * 255
  pub info : (j : ℕ) → j < r → part rows (j * 255) 239 ≡ info_from file m (at + j)

pub filling_start : (file : List ℕ) (m at n : ℕ) (rows : List ℕ) → length rows ≡ n * 255 → Filling file m at n rows 0
filling_start file m at n rows e = record { within = omega arith; long = e; info = λ j h. absurd (omega arith) }

module _ (file : List ℕ) (m at n : ℕ) (rows : List ℕ) (r : ℕ) (f : Filling file m at n rows r) where
  abbrev row : List ℕ
  row = info_from file m (at + r)

  pub filling_more : (next : List ℕ) → r < n → next ≡ sets rows (r * 255) (info_from file m (at + r)) → Filling file m at n next (r + 1)
  filling_more next h e = record { within = omega arith; long = ap length e ∙ length-sets rows (r * 255) row ∙ f.long; info = λ j l. by j l (le_or_lt r j) }
    where
      there : part next (r * 255) 239 ≡ row
      there = let w : length rows ≡ n * 255 = f.long in ap (λ (l : List ℕ). part l (r * 255) 239) e ∙ part-sets rows row (r * 255) 239 (length_info file m (at + r)) (omega arith)

      by : (j : ℕ) → j < r + 1 → (r ≤ j) ⊎ (j < r) → part next (j * 255) 239 ≡ info_from file m (at + j)
      by j l (inl g) = let d : r ≡ j = omega arith in subst (λ (k : ℕ). part next (k * 255) 239 ≡ info_from file m (at + k)) d there
      by j l (inr g) =
          ap (λ (x : List ℕ). part x (j * 255) 239) e
          ∙ part_same (sets rows (r * 255) row) rows (j * 255) 239 (λ k a b. sets-beside rows (r * 255) row k (inl (omega arith))) ∙ f.info j g

  -- with the checks behind it each of them is a row of the file
  pub filling_done : (next : List ℕ) → n ≤ r → next ≡ checked_of rows → next ≡ rows_from file m at n
  unfolding checked_of checked_row rows_from
  filling_done next h e =
      let w : length rows ≡ n * 255 = f.long in
      let d : length rows / 255 ≡ n = omega arith in
      let s : flatten (listed (checked_row rows) n 0) ≡ rows_from file m at n =
      ap flatten
      (listed_same (checked_row rows) (λ j. coded_row (info_from file m j)) n 0 at
      (λ k l. let z : 0 + k ≡ k = omega arith in ap (checked_row rows) z ∙ ap coded_row (f.info k (omega arith)))) in
      e ∙ ap (sets rows 0) (ap (λ (k : ℕ). flatten (listed (checked_row rows) k 0)) d ∙ s)
      ∙ sets-all rows (rows_from file m at n) (length-rows file m at n ∙ sym w)

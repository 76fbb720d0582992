-- A payload of one row is mended as that row is repaired; what is counted of it.
-- Assumes nothing.
use mathlib.Core.Path.{◌≡◌, refl, ap, subst, ◌∙◌}
use mathlib.Core.Bool.{Bool, true, false, cond}
use mathlib.Core.List.{List, [], append-nil}
use Prim.Native.Nat.{ℕ, ◌/◌, ◌%◌, ◌≤◌}
use native.Mathlib.Nat.{add-zero}
use native.Mathlib.Omega.{arith}
use borrow.Author.Tests.{eq-eqb, le-leb}
use lib.Dec.{eqb}
use lib.ListN.{length, take, replicate}
use lib.Seq.{take_all}
use Rattle.refusals.specs.declared.Refusal.{Refusal}
use Rattle.refusals.specs.declared.Refusal.TheVariants.{Short}
use Rattle.code.specs.Code.{distance}
use Rattle.code.specs.Search.{Repaired}
use Rattle.code.specs.Search.Repaired.{found, none}
use Rattle.code.specs.Repair.{repair_of}
use Rattle.code.specs.Mend.{whole, behind, mend_rows}
use Rattle.code.proofs.Exact.{repair-near}
use Rattle.repair.specs.Repair.{Mending, mending_as, mending_of, Mends}
use Rattle.single.specs.declared.Corrected.{Corrected}
use Rattle.single.specs.Single.{mended_as, mend_of, repair_row_of, RepairCounts}
use Rattle.std.specs.Prelude.{◌+◌, Result, Ok, Err}

-- a count, with the row beside it
abbrev pub with_row : List ℕ → Result ℕ Refusal → Result Corrected Refusal
with_row out (Ok k) = Ok (record { row = out; count = k })
with_row out (Err e) = Err e

pub mend_one : (row : List ℕ) (r : Result ℕ Refusal) (out : List ℕ) → length row ≡ 255 → Mends (mending_of row) r out → with_row out r ≡ mend_of row
unfolding mending_of mend_of mend_rows
mend_one row r out n p =
    let m : Mends (alone (repair_of row)) r out =
    subst (λ (m : Mending). Mends m r out)
    (rw (eq-eqb (length row % 255) 0 (ap (λ (k : ℕ). k % 255) n), le-leb (length row) 3825 (omega arith)) (ap (mending_as row) (one ∙ ap (λ (l : List ℕ). behind l (repair_of l) 0 (whole [] 0)) all_of)))
    p in
    by (repair_of row) m.answers m.leaves
  where
    all_of : take 255 row ≡ row
    all_of = take_all 255 row (omega arith)

    one : mend_rows (length row / 255) 0 row ≡ mend_rows 1 0 row
    one = ap (λ (k : ℕ). mend_rows (k / 255) 0 row) n

    -- as the row alone is answered
    alone : Repaired → Mending
    alone a = mending_as row (behind row a 0 (whole [] 0))

    by : (a : Repaired) → r ≡ (alone a).answer → out ≡ (alone a).bytes → with_row out r ≡ mended_as row a
    by (found s) v o =
        let l : out ≡ s = o ∙ append-nil s in
        let n : distance row s + 0 ≡ distance row s = add-zero (distance row s) in
        ap (with_row out) v ∙ (λ i. Ok (record { row = l i; count = n i }))
    by none v o = ap (with_row out) v

-- ---- what is counted

-- what is answered, by the length and the repair
abbrev answer : List ℕ → Bool → Repaired → Result Corrected Refusal
answer row t a = cond t (mended_as row a) (Err Short)

pub repair_counts : RepairCounts
unfolding repair_row_of mend_of
repair_counts row = record {
  few = few (eqb (length row) 255) (repair_of row) refl;
  told = told (eqb (length row) 255) (repair_of row);
}
  where
    few : (t : Bool) (a : Repaired) → repair_of row ≡ a → (m : Corrected) → answer row t a ≡ Ok m → m.count ≤ 8
    few true (found s) e m v =
        let is : m ≡ record { row = s; count = distance row s } = cc in
        rw is (repair-near row s e).close
    few true none e m v = let z : ◌≡◌ {A = ℕ} 0 1 = cc in absurd (omega arith)
    few false a e m v = let z : ◌≡◌ {A = ℕ} 0 1 = cc in absurd (omega arith)

    told : (t : Bool) (a : Repaired) (m : Corrected) → answer row t a ≡ Ok m → m.count ≡ distance row m.row
    told true (found s) m v =
        let is : m ≡ record { row = s; count = distance row s } = cc in
        rw is refl
    told true none m v = let z : ◌≡◌ {A = ℕ} 0 1 = cc in absurd (omega arith)
    told false a m v = let z : ◌≡◌ {A = ℕ} 0 1 = cc in absurd (omega arith)

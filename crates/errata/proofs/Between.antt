-- Rows that leave the same when the generator divides them: what makes the one a coded row makes the other one.
-- Assumes nothing.
use mathlib.Core.Path.{◌≡◌, sym, ap, ap₂, subst, ◌∙◌}
use mathlib.Core.Logic.{◌≢◌, ⊎_elim}
use mathlib.Core.List.{List}
use Prim.Native.Nat.{ℕ, ◌-◌, ◌<◌}
use native.Mathlib.Omega.{arith}
use lib.ListN.{length, get_or}
use lib.Seq.{ext_get_or}
use Rattle.ground.specs.Bits.{sum}
use Rattle.ground.proofs.Sums.{sum_comm, sum-left_comm, sum_self, sum_zero}
use Rattle.field.specs.Field.{power}
use Rattle.code.specs.Code.{Bytes, Coded, add}
use Rattle.code.specs.Search.{remainder}
use Rattle.code.specs.Value.{value}
use Rattle.code.proofs.Lists.{add-bytes, length-add, add_comm, add_assoc, add_twice, add_at, sum-again}
use Rattle.code.proofs.Values.{value-add, value-remainder, coded-values, values-coded}
use Rattle.errata.specs.Errata.{at_place}
use Rattle.errata.specs.InnerErrata.{mended_by}
use Rattle.errata.proofs.Mending.{mended-length, mended_off}
use Rattle.errata.proofs.Rising.{somewhere}
use Rattle.errata.proofs.Listing.{mended-on}

-- ---- a coded row moved to another row

module _ (r row t : List ℕ) (lr : length r ≡ 255) (lrow : length row ≡ 255) (coded : Coded t) where
  between : length (add r row) ≡ 255
  between = length-add r row (omega arith) ∙ lrow

  lt : length t ≡ 255
  lt = coded.sized

  pub moved_length : length (add t (add r row)) ≡ 255
  moved_length = length-add t (add r row) (omega (arith, between, lt)) ∙ between

  -- they differ as the others do
  pub moved_add : add row (add t (add r row)) ≡ add t r
  moved_add =
      ap (add row) (sym (add_assoc t r row) ∙ add_comm (add t r) row)
      ∙ add_twice row (add t r) (omega (arith, lrow, length-add t r (omega (arith, lt, lr)), lr))

  pub moved_at : (i : ℕ) → get_or (add t (add r row)) i 0 ≡ sum (get_or t i 0) (sum (get_or r i 0) (get_or row i 0))
  moved_at i = add_at t (add r row) (lt ∙ sym between) i ∙ ap (sum (get_or t i 0)) (add_at r row (lr ∙ sym lrow) i)

  module _ (br : Bytes r) (brow : Bytes row) (same : remainder 239 r ≡ remainder 239 row) where
    moved_values : (j : ℕ) → j < 16 → value (add t (add r row)) (power j) ≡ 0
    moved_values j h =
        let v : ℕ = value (remainder 239 r) (power j) in
        value-add t (add r row) (power j) (lt ∙ sym between)
        ∙ ap₂ sum (coded-values t coded j h)
        (value-add r row (power j) (lr ∙ sym lrow)
        ∙ ap₂ sum (value-remainder r lr j h) (value-remainder row lrow j h ∙ ap (λ (l : List ℕ). value l (power j)) (sym same))
        ∙ sum_self v)
        ∙ sum_zero 0

    pub moved_coded : Coded (add t (add r row))
    moved_coded = values-coded (add t (add r row)) moved_length (add-bytes t (add r row) coded.bytes (add-bytes r row br brow)) moved_values

-- ---- what turns r into s, added to another row

-- at n different places c has by how much r and s differ, and they differ nowhere else
pub record Turning (r s : List ℕ) (at c : ℕ → ℕ) (n : ℕ) : Type 0 where
  pub below : (k : ℕ) → k < n → at k < 255
  pub apart : (j k : ℕ) → j < k → k < n → at j ≢ at k
  pub amount : (k : ℕ) → k < n → c k ≡ sum (at_place r (at k)) (at_place s (at k))
  pub agree : (a : ℕ) → a < 255 → ((k : ℕ) → k < n → at k ≢ a) → at_place r a ≡ at_place s a

module _ {r s : List ℕ} {at c : ℕ → ℕ} {n : ℕ} (turn : Turning r s at c n) (row : List ℕ) (lr : length r ≡ 255) (ls : length s ≡ 255) (lrow : length row ≡ 255) where
  ring : (x y z : ℕ) → sum x (sum y z) ≡ sum z (sum y x)
  ring x y z = simp (sum_comm, sum-left_comm)

  there : (a : ℕ) → a < 255 → at_place (mended_by row at c n) a ≡ sum (at_place s a) (sum (at_place r a) (at_place row a))
  there a b =
      ⊎_elim
      (λ (f : (k : ℕ) × (k < n) × (at k ≡ a)).
      let k : ℕ = f.0 in
      subst (λ (x : ℕ). at_place (mended_by row at c n) x ≡ sum (at_place s x) (sum (at_place r x) (at_place row x))) f.2
      (mended-on row lrow at c n turn.below turn.apart k f.1
      ∙ ap (sum (at_place row (at k))) (turn.amount k f.1) ∙ ring (at_place row (at k)) (at_place r (at k)) (at_place s (at k))))
      (λ (o : (k : ℕ) → k < n → at k ≢ a).
      mended_off row lrow at c n (254 - a) (λ k h z. o k h (omega (arith, turn.below k h)))
      ∙ sym (ap (λ (x : ℕ). sum x (sum (at_place r a) (at_place row a))) (sym (turn.agree a b o)) ∙ sum-again (at_place r a) (at_place row a)))
      (somewhere at a n)

  pub mended_moved : mended_by row at c n ≡ add s (add r row)
  mended_moved =
      let long : length (mended_by row at c n) ≡ 255 = mended-length row lrow at c n in
      let mid : length (add r row) ≡ 255 = length-add r row (omega arith) ∙ lrow in
      ext_get_or 0 (mended_by row at c n) (add s (add r row)) (long ∙ sym (length-add s (add r row) (omega arith) ∙ mid))
      (λ i h.
      let e : 254 - (254 - i) ≡ i = omega arith in
      subst (λ (x : ℕ). get_or (mended_by row at c n) x 0 ≡ get_or (add s (add r row)) x 0) e
      (there (254 - i) (omega arith)
      ∙ sym (add_at s (add r row) (ls ∙ sym mid) (254 - (254 - i)) ∙ ap (sum (at_place s (254 - i))) (add_at r row (lr ∙ sym lrow) (254 - (254 - i))))))

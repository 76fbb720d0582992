-- The turns in which the places are shifted out of the syndromes, one after the other, while what each leaves is gathered for all places at once, and the gaps between
-- the locators are multiplied. At the end each value is what was gathered over the gaps.
-- Assumes nothing.
use mathlib.Core.Path.{◌≡◌, sym, ap, ap₂, subst, ◌∙◌}
use mathlib.Core.Logic.{⊎_elim}
use mathlib.Core.Bool.{cond}
use mathlib.Core.List.{List}
use Prim.Native.Nat.{ℕ, suc, ◌+◌, ◌≤◌, ◌<◌}
use native.Mathlib.Numerals.{add-one}
use native.Mathlib.Omega.{arith}
use borrow.Author.Tests.{eq-eqb, ne_eqb}
use lib.Dec.{eqb}
use lib.ListN.{get_or}
use Rattle.std.proofs.lemmas.Bool.{cases_lt, cases_eq}
use Rattle.ground.specs.Bits.{sum}
use Rattle.ground.proofs.Sums.{sum_self, sum_zero, zero_sum}
use Rattle.field.specs.Field.{product, power, Inverse}
use Rattle.field.specs.declared.Sixteen.{Sixteen}
use Rattle.field.specs.Words.{entry, Products}
use Rattle.field.proofs.Laws.{product_one}
use Rattle.field.proofs.InWords.{entry_small}
use Rattle.field.proofs.Raising.{one_product}
use Rattle.errata.specs.InnerErrata.{entries, Placed, shifts_of, gathered_of, gaps_of, Solved, Gives}
use Rattle.errata.proofs.Gathered.{gathered-solves}
use Rattle.errata.proofs.Tails.{tail_agrees, agrees_tail}
use Rattle.errata.proofs.Entries.{list_length, list_at, list-byte}
use Rattle.errata.specs.InnerValues.{list_of, Located, Empty, Divided}

-- after j turns, of the syndromes s
pub record Turning (at : List ℕ) (s left gathered gaps : Sixteen) (j : ℕ) : Type 0 where
  pub shifted : (k : ℕ) → j + k < 16 → entry left k ≡ shifts_of (entries at) (entries (list_of s)) j k
  pub sums : (k : ℕ) → k < 16 → entry gathered k ≡ gathered_of (entries at) (entries (list_of s)) j k
  pub products : (k : ℕ) → k < 16 → entry gaps k ≡ gaps_of (entries at) j k

pub turning_start : (at : List ℕ) (s none ones : Sixteen) → ((k : ℕ) → k < 16 → entry none k ≡ 0) → ((k : ℕ) → k < 16 → entry ones k ≡ 1) → Turning at s s none ones 0
unfolding shifts_of gathered_of gaps_of
turning_start at s none ones z o =
    record { shifted = λ k h. sym (list_at s k (omega arith)); sums = z; products = o }

-- one turn more
module _ {at : List ℕ} {s left gathered gaps : Sixteen} {j : ℕ} (was : Turning at s left gathered gaps j) (more : j < 16) (x : Sixteen) (located : Located at x)
    (y : Sixteen) (each : (k : ℕ) → k < 16 → entry y k ≡ entry x j) (gap : Sixteen) (apart : (k : ℕ) → entry gap k ≡ sum (entry x k) (entry y k)) where
  gap_is : (k : ℕ) → k < 16 → entry gap k ≡ sum (power (get_or at k 0)) (power (get_or at j 0))
  gap_is k h = apart k ∙ ap₂ sum (located k h) (each k h ∙ located j more)

  sums_more : (p f g : Sixteen) → Products gap gathered p → ((k : ℕ) → k < 16 → entry f k ≡ entry left 0) → ((k : ℕ) → entry g k ≡ sum (entry p k) (entry f k))
      → (k : ℕ) → k < 16 → entry g k ≡ gathered_of (entries at) (entries (list_of s)) (suc j) k
  unfolding gathered_of
  sums_more p f g prod first add k h =
      add k
      ∙ ap₂ sum (prod.entry k h ∙ ap₂ product (gap_is k h) (was.sums k h)) (first k h ∙ was.shifted 0 (omega arith))

  -- the gap to itself is 0, to which 1 is added
  own : (u : Sixteen) → ((k : ℕ) → k < 16 → entry u k ≡ cond (eqb j k) 1 0) → (k : ℕ) → k < 16
      → sum (entry gap k) (entry u k) ≡ cond (eqb j k) 1 (sum (power (get_or at k 0)) (power (get_or at j 0)))
  own u unit k h =
      ap₂ sum (gap_is k h) (unit k h)
      ∙ ⊎_elim
      (λ (e : j ≡ k). rw (eq-eqb j k e) (ap (λ (i : ℕ). sum (sum (power (get_or at i 0)) (power (get_or at j 0))) 1) (sym e) ∙ ap (λ (z : ℕ). sum z 1) (sum_self (power (get_or at j 0))) ∙ zero_sum 1))
      (λ (n : j ≡ k → ⊥). rw (ne_eqb j k n) (sum_zero (sum (power (get_or at k 0)) (power (get_or at j 0))))) (cases_eq j k)

  gaps_more : (u v g : Sixteen) → ((k : ℕ) → k < 16 → entry u k ≡ cond (eqb j k) 1 0) → ((k : ℕ) → entry v k ≡ sum (entry gap k) (entry u k)) → Products v gaps g
      → (k : ℕ) → k < 16 → entry g k ≡ gaps_of (entries at) (suc j) k
  unfolding gaps_of
  gaps_more u v g unit add prod k h = prod.entry k h ∙ ap₂ product (add k ∙ own u unit k h) (was.products k h)

  shifted_more : (d p g : Sixteen) → ((k : ℕ) → k < 15 → entry d k ≡ entry left (suc k)) → Products y left p → ((k : ℕ) → entry g k ≡ sum (entry d k) (entry p k))
      → (k : ℕ) → suc j + k < 16 → entry g k ≡ shifts_of (entries at) (entries (list_of s)) (suc j) k
  unfolding shifts_of
  shifted_more d p g down prod add k h =
      add k
      ∙ ap₂ sum (down k (omega arith) ∙ was.shifted (suc k) (omega arith))
      (prod.entry k (omega arith) ∙ ap₂ product (each k (omega arith) ∙ located j more) (was.shifted k (omega arith)))

  pub turning_more : (f u d : Sixteen) {p g v w q l : Sixteen} → Products gap gathered p → ((k : ℕ) → k < 16 → entry f k ≡ entry left 0) → ((k : ℕ) → entry g k ≡ sum (entry p k) (entry f k))
      → ((k : ℕ) → k < 16 → entry u k ≡ cond (eqb j k) 1 0) → ((k : ℕ) → entry v k ≡ sum (entry gap k) (entry u k)) → Products v gaps w
      → ((k : ℕ) → k < 15 → entry d k ≡ entry left (suc k)) → Products y left q → ((k : ℕ) → entry l k ≡ sum (entry d k) (entry q k)) → Turning at s l g w (j + 1)
  turning_more f u d {p} {g} {v} {w} {q} {l} gathers first adds unit one multiplies down shifts left' =
      rw (add-one j)
      (record { shifted = shifted_more d q l down shifts left'; sums = sums_more p f g gathers first adds; products = gaps_more u v w unit one multiplies })

pub turning_end : {at : List ℕ} {s left gathered gaps : Sixteen} {j n : ℕ} → Turning at s left gathered gaps j → j ≡ n → Turning at s left gathered gaps n
turning_end {at} {s} {left} {gathered} {gaps} was e = subst (Turning at s left gathered gaps) e was

-- all turns made: where values give all syndromes, nothing is left
pub turned_empty : {at : List ℕ} {s left gathered gaps : Sixteen} {n : ℕ} → Turning at s left gathered gaps n → (c : List ℕ) → Gives (list_of s) at c n → Empty left n
turned_empty {at} {s} {left} {gathered} {gaps} {n} was c gives j h = was.shifted j h ∙ agrees_tail at n (list_of s) c gives j h

-- what was gathered over the gaps are the values
module _ {at : List ℕ} {s left gathered gaps : Sixteen} {n : ℕ} (was : Turning at s left gathered gaps n) (placed : Placed n at)
    {values : Sixteen} (divided : Divided gathered gaps n values) where
  abbrev given : List ℕ
  given = list_of s

  abbrev found : List ℕ
  found = list_of values

  abbrev Over : ℕ → Type 0
  Over k = (i : ℕ) × Inverse (gaps_of (entries at) n k) i × (get_or found k 0 ≡ product (gathered_of (entries at) (entries given) n k) i)

  many : 2 ≤ n → (k : ℕ) → k < 16 → Over k
  many h k b =
      let q = divided.many h k b in
      (q.0, rw (sym (was.products k b)) q.1, list_at values k b ∙ q.2 ∙ ap (λ (z : ℕ). product z q.0) (was.sums k b))

  -- the only place has no gap
  one : n ≡ 1 → (k : ℕ) → k < n → Over k
  unfolding gaps_of
  one e k h =
      let z : k ≡ 0 = omega arith in
      let g : gaps_of (entries at) n k ≡ 1 = ap₂ (gaps_of (entries at)) e z ∙ product_one 1 (omega arith) in
      let i : Inverse 1 1 = record { byte = omega arith; of_zero = λ q. absurd (omega arith); of_other = λ q. product_one 1 (omega arith) } in (
        1,
        rw g i,
        list_at values k (omega arith) ∙ divided.few (omega arith) k (omega arith) ∙ was.sums k (omega arith)
            ∙ sym (one_product (gathered_of (entries at) (entries given) n k) (rw (sym (was.sums k (omega arith))) (entry_small gathered k))),
      )

  pub turned_solved : Solved at n given found
  turned_solved =
      gathered-solves at n placed given (list-byte s) found (list_length values)
      (λ k h. ⊎_elim (λ (l : n < 2). one (omega arith) k h) (λ (l : 2 ≤ n). many l k (omega (arith, placed.few))) (cases_lt n 2))

  -- where nothing is left they give the others
  pub turned_gives : Empty left n → Gives given at found n
  turned_gives empty = tail_agrees at n given found turned_solved (λ j h. sym (was.shifted j h) ∙ empty j h)

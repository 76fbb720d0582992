-- As many syndromes as there are different places determine values at them: there are such values, made by shifting the places out and bringing them back from the last one on.
-- Assumes nothing.
use mathlib.Core.Path.{◌≡◌, refl, sym, ap, ap₂, ◌∙◌}
use mathlib.Core.Logic.{⊎_elim}
use mathlib.Core.List.{List}
use Prim.Native.Nat.{ℕ, zero, suc, ◌+◌, ◌-◌, ◌≤◌, ◌<◌}
use native.Mathlib.Nat.{le_refl}
use native.Mathlib.Omega.{arith}
use lib.ListN.{get_or}
use Rattle.std.proofs.lemmas.Bool.{cases_lt, cases_eq}
use Rattle.ground.specs.Bits.{sum}
use Rattle.ground.specs.Lists.{listed}
use Rattle.ground.proofs.Listed.{length-listed, get_or-listed_0}
use Rattle.field.specs.Field.{product, expo, power}
use Rattle.field.proofs.Laws.{sum-byte, product-byte, product_assoc, product_comm, power-byte, has_inverse}
use Rattle.code.proofs.Weights.{one_product}
use Rattle.code.specs.Total.{total}
use Rattle.errata.specs.InnerErrata.{entries, share_of, Placed, shifts_of, Solved}
use Rattle.code.proofs.Totals.{total_ext, total-byte}
use Rattle.errata.proofs.Listing.{beyond}
use Rattle.errata.proofs.Solving.{tail_of, tail_share, tail_solved, locators_apart}

shifts_byte : (a s : ℕ → ℕ) → ((j : ℕ) → s j < 256) → (k j : ℕ) → shifts_of a s k j < 256
unfolding shifts_of
shifts_byte a s bytes zero j = bytes j
shifts_byte a s bytes (suc k) j =
    sum-byte (shifts_of a s k (suc j)) (product (power (a k)) (shifts_of a s k j)) (shifts_byte a s bytes k (suc j)) (product-byte (power (a k)) (shifts_of a s k j))

-- c has values at the places from place k on that give what is left of the syndromes after k places
record Solution (a : ℕ → ℕ) (n : ℕ) (s : ℕ → ℕ) (k : ℕ) : Type 0 where
  values : ℕ → ℕ
  bytes : (i : ℕ) → values i < 256
  low : (i : ℕ) → i < k → values i ≡ shifts_of a s i 0
  high : (j : ℕ) → k + j < n → tail_of a values n k j ≡ shifts_of a s k j

-- a number divided by one that is not 0
quotient : (x y : ℕ) → x < 256 → y < 256 → (y ≡ 0 → ⊥) → (v : ℕ) × (v < 256) × (product v y ≡ x)
quotient x y hx hy nz =
    let b = has_inverse y hy nz in
    (product x b.0, product-byte x b.0, product_assoc x b.0 y ∙ ap (product x) (product_comm b.0 y ∙ b.2) ∙ one_product x hx)

module _ (at : List ℕ) (n : ℕ) (placed : Placed n at) (s : ℕ → ℕ) (k : ℕ) (h : k < n) (was : Solution (entries at) n s (suc k)) where
  abbrev gap : ℕ → ℕ
  gap i = sum (power (get_or at i 0)) (power (get_or at k 0))

  -- behind place k
  divided : (i : ℕ) → (v : ℕ) × (v < 256) × (k < i → i < n → product v (gap i) ≡ was.values i)
  divided i =
      ⊎_elim
      (λ (l : k < i).
      ⊎_elim
      (λ (b : i < n).
      let q = quotient (was.values i) (gap i) (was.bytes i) (sum-byte (power (get_or at i 0)) (power (get_or at k 0)) (power-byte (get_or at i 0)) (power-byte (get_or at k 0))) (locators_apart placed k i l b) in
      (q.0, q.1, λ l b. q.2))
      (λ (g : n ≤ i). (0, omega arith, λ l b. absurd (omega arith))) (cases_lt i n))
      (λ (g : i ≤ k). (0, omega arith, λ l b. absurd (omega arith))) (cases_lt k i)

  head : ℕ
  head = sum (was.values k) (total (n - suc k) (λ i. (divided (suc k + i)).0))

  head_byte : head < 256
  unfolding head
  head_byte =
      sum-byte (was.values k) (total (n - suc k) (λ i. (divided (suc k + i)).0)) (was.bytes k)
      (total-byte (n - suc k) (λ i. (divided (suc k + i)).0) (λ i b. (divided (suc k + i)).1))

  next : (i : ℕ) → (v : ℕ) × (v < 256) × (i < k → v ≡ was.values i) × (i ≡ k → v ≡ head) × (k < i → v ≡ (divided i).0)
  next i =
      ⊎_elim (λ (l : i < k). (was.values i, was.bytes i, (λ b. refl), (λ e. absurd (omega arith)), λ g. absurd (omega arith)))
      (λ (l : k ≤ i).
      ⊎_elim (λ (e : i ≡ k). (head, head_byte, (λ b. absurd (omega arith)), (λ q. refl), λ g. absurd (omega arith)))
      (λ (e : i ≡ k → ⊥). ((divided i).0, (divided i).1, (λ b. absurd (omega arith)), (λ q. absurd (e q)), λ g. refl)) (cases_eq i k)) (cases_lt i k)

  head_next : (next k).0 ≡ sum (shifts_of (entries at) s k 0) (total (n - suc k) (λ i. (next (suc k + i)).0))
  unfolding head
  head_next =
      (next k).3 refl
      ∙ ap₂ sum (was.low k (le_refl (suc k)))
      (total_ext (n - suc k) (λ i. (divided (suc k + i)).0) (λ i. (next (suc k + i)).0) (λ i b. sym ((next (suc k + i)).4 (omega arith))))

  solution_more : Solution (entries at) n s k
  unfolding shifts_of
  solution_more =
      record {
        values = λ i. (next i).0;
        bytes = λ i. (next i).1;
        low = λ i b. (next i).2 b ∙ was.low i (omega arith);
        high = tail_solved (entries at) n k h was.values (λ i. (next i).0) (λ i l b. ap (λ (v : ℕ). product v (gap i)) ((next i).4 l) ∙ (divided i).2 l b)
            (shifts_of (entries at) s k) (λ i. (next i).1) head_next was.high;
      }

module _ (at : List ℕ) (n : ℕ) (placed : Placed n at) (s : List ℕ) (bytes : (j : ℕ) → get_or s j 0 < 256) where
  solution : (d k : ℕ) → k + d ≡ n → Solution (entries at) n (entries s) k
  solution zero k e =
      record {
        values = λ i. shifts_of (entries at) (entries s) i 0;
        bytes = λ i. shifts_byte (entries at) (entries s) bytes i 0;
        low = λ i b. refl;
        high = λ j b. absurd (omega arith);
      }
  solution (suc d) k e = solution_more at n placed (entries s) k (omega arith) (solution d (suc k) (omega arith))

  whole : Solution (entries at) n (entries s) 0
  whole = solution n 0 (omega arith)

  abbrev all-values : ℕ → ℕ
  all-values = whole.values

  -- as a list
  pub solved : List ℕ
  solved = listed all-values 16 0

  pub solved_byte : (k : ℕ) → get_or solved k 0 < 256
  unfolding solved
  solved_byte k =
      ⊎_elim (λ (h : k < 16). rw (get_or-listed_0 all-values 16 k 0 h) (whole.bytes k))
      (λ (g : 16 ≤ k). rw (beyond (listed all-values 16 0) k (omega (arith, length-listed all-values 16 0))) (omega arith)) (cases_lt k 16)

  pub solved_solves : Solved at n s solved
  unfolding solved shifts_of share_of
  solved_solves =
      record {
        sized = length-listed all-values 16 0;
        solves = λ j h.
            total_ext n (λ k. product (entries (listed all-values 16 0) k) (expo (power (entries at k)) j)) (λ k. product (all-values k) (expo (power (entries at k)) j))
            (λ k b. ap (λ (x : ℕ). product x (expo (power (entries at k)) j)) (get_or-listed_0 all-values 16 k 0 (omega (arith, placed.few))))
            ∙ sym (tail_share (entries at) all-values n j)
            ∙ whole.high j (omega arith);
      }

-- Values at different places by one division for each: what is gathered at place k is its value times the differences between its locator and those of the other places. For what is
-- gathered is a sum over all places, each value times the differences to the places other than k, and at each place but k one of these is 0.
-- Assumes nothing.
use mathlib.Core.Path.{◌≡◌, refl, sym, ap, ap₂, ◌∙◌}
use mathlib.Core.Logic.{◌≢◌, ⊎_elim}
use mathlib.Core.Bool.{cond}
use mathlib.Core.List.{List}
use Prim.Native.Nat.{ℕ, zero, suc, ◌≤◌, ◌<◌}
use native.Mathlib.Nat.{le_refl}
use native.Mathlib.Omega.{arith}
use lib.Dec.{eqb}
use lib.ListN.{length, get_or}
use borrow.Author.Tests.{eq-eqb, ne_eqb}
use Rattle.std.proofs.lemmas.Bool.{cases_lt, cases_eq}
use Rattle.ground.specs.Bits.{sum}
use Rattle.ground.proofs.Sums.{sum_comm, sum_self, zero_sum}
use Rattle.ground.proofs.Numbers.{below_suc}
use Rattle.field.specs.Field.{product, expo, power, Inverse}
use Rattle.field.proofs.Laws.{ring, sum-byte, product-byte, product_comm, product_assoc, product-left_comm, product-sum-left, zero_product, product_zero, power-byte, zero_divisor}
use Rattle.code.proofs.Lists.{sum-again}
use Rattle.code.proofs.Weights.{expo_zero, one_product}
use Rattle.errata.specs.InnerErrata.{entries, share_of, Placed, shifts_of, gathered_of, gaps_of, Solved}
use Rattle.code.proofs.Totals.{total_one}
use Rattle.errata.proofs.Solving.{locators_apart}
use Rattle.errata.proofs.Solvable.{solved, solved_byte, solved_solves}
use Rattle.errata.proofs.Tails.{share_ext, share_mix, left_of, shifts_share, shifts_same}

-- the value at place i times the differences to the places before place j but place k
unfoldable others_of : (ℕ → ℕ) → (ℕ → ℕ) → ℕ → ℕ → ℕ → ℕ
others_of a c zero k i = c i
others_of a c (suc j) k i = cond (eqb j k) (others_of a c j k i) (product (sum (power (a i)) (power (a j))) (others_of a c j k i))

gaps_byte : (a : ℕ → ℕ) (j k : ℕ) → gaps_of a j k < 256
unfolding gaps_of
gaps_byte a zero k = omega arith
gaps_byte a (suc j) k = product-byte (cond (eqb j k) 1 (sum (power (a k)) (power (a j)))) (gaps_of a j k)

-- a difference taken round by another locator
turned : (x y z o : ℕ) → sum (product (sum x y) o) (product (sum z x) o) ≡ product (sum z y) o
turned x y z o = sym (product-sum-left (sum x y) (sum z x) o) ∙ ap (λ (u : ℕ). product u o) (order x y z ∙ sum-again x (sum z y))
  where
    order : (x y z : ℕ) → sum (sum x y) (sum z x) ≡ sum x (sum x (sum z y))
    order x y z = simp ring

module _ (a c : ℕ → ℕ) (k : ℕ) where
  others-here : (i : ℕ) → others_of a c (suc k) k i ≡ others_of a c k k i
  unfolding others_of
  others-here i = rw (eq-eqb k k refl) refl

  others-more : (j i : ℕ) → j ≢ k → others_of a c (suc j) k i ≡ product (sum (power (a i)) (power (a j))) (others_of a c j k i)
  unfolding others_of
  others-more j i n = rw (ne_eqb j k n) refl

  -- up to place k
  others-left : (j i : ℕ) → j ≤ k → others_of a c j k i ≡ left_of a c j i
  unfolding left_of others_of
  others-left zero i h = refl
  others-left (suc j) i h = others-more j i (λ q. omega arith) ∙ ap (product (sum (power (a i)) (power (a j)))) (others-left j i (omega arith))

  -- behind it one difference more is left out
  left-others : (j i : ℕ) → k < j → left_of a c j i ≡ product (sum (power (a i)) (power (a k))) (others_of a c j k i)
  unfolding left_of
  left-others zero i h = absurd (omega arith)
  left-others (suc j) i h =
      let x : ℕ = sum (power (a i)) (power (a k)) in
      let y : ℕ = sum (power (a i)) (power (a j)) in
      ⊎_elim
      (λ (q : k ≡ j). rw (sym q) (ap (product x) (sym (others-left k i (omega arith)) ∙ sym (others-here i))))
      (λ (q : k < j). ap (product y) (left-others j i q) ∙ product-left_comm y x (others_of a c j k i) ∙ ap (product x) (sym (others-more j i (λ z. omega arith))))
      (below_suc h)

  others_zero : (j i : ℕ) → i ≢ k → i < j → others_of a c j k i ≡ 0
  others_zero zero i n h = absurd (omega arith)
  others_zero (suc j) i n h =
      ⊎_elim
      (λ (q : i ≡ j). rw (sym q) (others-more i i n ∙ ap (λ (x : ℕ). product x (others_of a c i k i)) (sum_self (power (a i))) ∙ zero_product (others_of a c i k i)))
      (λ (q : i < j).
      ⊎_elim (λ (z : j ≡ k). rw z (others-here i) ∙ others_zero j i n q)
      (λ (z : j ≡ k → ⊥). others-more j i z ∙ ap (product (sum (power (a i)) (power (a j)))) (others_zero j i n q) ∙ product_zero (sum (power (a i)) (power (a j)))) (cases_eq j k))
      (below_suc h)

  -- at place k itself
  others_gaps : ((i : ℕ) → c i < 256) → (j : ℕ) → others_of a c j k k ≡ product (c k) (gaps_of a j k)
  unfolding others_of gaps_of
  others_gaps bytes zero = sym (one_product (c k) (bytes k))
  others_gaps bytes (suc j) =
      let g : ℕ = gaps_of a j k in
      let y : ℕ = sum (power (a k)) (power (a j)) in
      ⊎_elim
      (λ (q : j ≡ k). rw (eq-eqb j k q) (others_gaps bytes j ∙ ap (product (c k)) (sym (product_comm 1 g ∙ one_product g (gaps_byte a j k)))))
      (λ (q : j ≡ k → ⊥). rw (ne_eqb j k q) (ap (product y) (others_gaps bytes j) ∙ product-left_comm y (c k) g))
      (cases_eq j k)

  -- ---- what is gathered, of syndromes whose first n are shares

  module _ (n : ℕ) (s : ℕ → ℕ) (same : (j : ℕ) → j < n → s j ≡ share_of a c n j) where
    first-left : (j : ℕ) → j < n → shifts_of a s j 0 ≡ share_of a (left_of a c j) n 0
    first-left j h = shifts_same a s (share_of a c n) j 0 (λ i b. same i (omega arith)) ∙ shifts_share a c n j 0

    gathered-others : (j : ℕ) → k < j → j ≤ n → gathered_of a s j k ≡ share_of a (others_of a c j k) n 0
    unfolding gathered_of
    gathered-others zero h b = absurd (omega arith)
    gathered-others (suc j) h b =
        let o : ℕ → ℕ = others_of a c j k in
        let x : ℕ = power (a k) in
        ⊎_elim
        (λ (q : k ≡ j).
        rw (sym q)
        (ap₂ (λ (u v : ℕ). sum (product u (gathered_of a s k k)) v) (sum_self x) (first-left k (omega arith))
        ∙ ap (λ (u : ℕ). sum u (share_of a (left_of a c k) n 0)) (zero_product (gathered_of a s k k))
        ∙ zero_sum (share_of a (left_of a c k) n 0)
        ∙ share_ext a (left_of a c k) (others_of a c (suc k) k) n 0 (λ i l. sym (others-here i ∙ others-left k i (omega arith)))))
        (λ (q : k < j).
        ap₂ (λ (u v : ℕ). sum (product (sum x (power (a j))) u) v) (gathered-others j q (omega arith)) (first-left j (omega arith))
        ∙ share_mix a o (left_of a c j) n 0 (sum x (power (a j)))
        ∙ share_ext a (λ i. sum (product (sum x (power (a j))) (o i)) (left_of a c j i)) (others_of a c (suc j) k) n 0
        (λ i l. ap (sum (product (sum x (power (a j))) (o i))) (left-others j i q) ∙ turned x (power (a j)) (power (a i)) (o i) ∙ sym (others-more j i (λ z. omega arith))))
        (below_suc h)

    gathered_gaps : ((i : ℕ) → c i < 256) → k < n → gathered_of a s n k ≡ product (c k) (gaps_of a n k)
    unfolding share_of
    gathered_gaps bytes h =
        gathered-others n h (le_refl n)
        ∙ total_one n k (λ i. product (others_of a c n k i) (expo (power (a i)) 0)) h
        (λ i b z. ap (λ (x : ℕ). product x (expo (power (a i)) 0)) (others_zero n i z b) ∙ zero_product (expo (power (a i)) 0))
        ∙ ap₂ product (others_gaps bytes n) (expo_zero (power (a k)))
        ∙ one_product (product (c k) (gaps_of a n k)) (product-byte (c k) (gaps_of a n k))

-- ---- the values

divided : (x g i v : ℕ) → x < 256 → g ≢ 0 → Inverse g i → v ≡ product (product x g) i → v ≡ x
divided x g i v h some inverse e = e ∙ product_assoc x g i ∙ ap (product x) (inverse.of_other some) ∙ one_product x h

module _ (at : List ℕ) (n : ℕ) (placed : Placed n at) where
  gap_apart : (k j : ℕ) → k < n → j < n → j ≢ k → sum (power (get_or at k 0)) (power (get_or at j 0)) ≢ 0
  gap_apart k j h b d z =
      ⊎_elim (λ (q : j < k). locators_apart placed j k q h z)
      (λ (q : k ≤ j). locators_apart placed k j (omega arith) b (sum_comm (power (get_or at j 0)) (power (get_or at k 0)) ∙ z)) (cases_lt j k)

  gaps_some : (k j : ℕ) → k < n → j ≤ n → gaps_of (entries at) j k ≢ 0
  unfolding gaps_of
  gaps_some k zero h b = λ z. absurd (omega arith)
  gaps_some k (suc j) h b =
      let y : ℕ = sum (power (get_or at k 0)) (power (get_or at j 0)) in
      let g : ℕ = gaps_of (entries at) j k in
      let small : g < 256 = gaps_byte (entries at) j k in
      let was : g ≢ 0 = gaps_some k j h (omega arith) in
      ⊎_elim
      (λ (q : j ≡ k). rw (eq-eqb j k q) (λ z. was (sym (product_comm 1 g ∙ one_product g small) ∙ z)))
      (λ (q : j ≡ k → ⊥). rw (ne_eqb j k q) (λ z. ⊎_elim (gap_apart k j h (omega arith) q) was
      (zero_divisor y g (sum-byte (power (get_or at k 0)) (power (get_or at j 0)) (power-byte (get_or at k 0)) (power-byte (get_or at j 0))) small z)))
      (cases_eq j k)

  pub gathered-solves : (s : List ℕ) → ((j : ℕ) → get_or s j 0 < 256) → (c : List ℕ) → length c ≡ 16
      → ((k : ℕ) → k < n → (i : ℕ) × Inverse (gaps_of (entries at) n k) i × (get_or c k 0 ≡ product (gathered_of (entries at) (entries s) n k) i))
      → Solved at n s c
  gathered-solves s bytes c long values =
      let d : List ℕ = solved at n placed s bytes in
      let is : Solved at n s d = solved_solves at n placed s bytes in
      let fit : (k : ℕ) → get_or d k 0 < 256 = solved_byte at n placed s bytes in
      record {
        sized = long;
        solves = λ j h.
            share_ext (entries at) (entries c) (entries d) n j
            (λ k b.
            let v = values k b in
            divided (get_or d k 0) (gaps_of (entries at) n k) v.0 (get_or c k 0) (fit k) (gaps_some k n b (le_refl n)) v.1
            (v.2 ∙ ap (λ (x : ℕ). product x v.0) (gathered_gaps (entries at) (entries d) k n (entries s) (λ i l. sym (is.solves i l)) fit b)))
            ∙ is.solves j h;
      }

-- What is left of syndromes after places were shifted out of them. Of the shares of values at places, each value is left times the differences of the locators; so nothing is left
-- of those at the places that are gone, and what is left tells whether values that give the first syndromes give them all.
-- Assumes nothing.
use mathlib.Core.Path.{◌≡◌, refl, sym, ap, ap₂, ◌∙◌}
use mathlib.Core.Logic.{⊎_elim}
use mathlib.Core.List.{List}
use Prim.Native.Nat.{ℕ, zero, suc, ◌+◌, ◌-◌, ◌≤◌, ◌<◌}
use native.Mathlib.Nat.{le_refl, add-zero}
use native.Mathlib.Omega.{arith}
use lib.ListN.{get_or}
use Rattle.std.proofs.lemmas.Bool.{cases_lt}
use Rattle.ground.specs.Bits.{sum}
use Rattle.ground.proofs.Sums.{sum_comm, sum_self}
use Rattle.ground.proofs.Numbers.{below_suc}
use Rattle.field.specs.Field.{product, expo, power}
use Rattle.field.proofs.Laws.{ring, zero_product, product_zero}
use Rattle.code.proofs.Weights.{expo-suc}
use Rattle.code.specs.Total.{total}
use Rattle.errata.specs.InnerErrata.{entries, share_of, shifts_of, Solved}
use Rattle.code.proofs.Totals.{total_ext, total-sum, total-product, total_zero}
use Rattle.errata.proofs.Solving.{same_sum}

-- ---- shares

pub share_ext : (a c d : ℕ → ℕ) (n j : ℕ) → ((i : ℕ) → i < n → c i ≡ d i) → share_of a c n j ≡ share_of a d n j
unfolding share_of
share_ext a c d n j e =
    total_ext n (λ i. product (c i) (expo (power (a i)) j)) (λ i. product (d i) (expo (power (a i)) j))
    (λ i h. ap (λ (x : ℕ). product x (expo (power (a i)) j)) (e i h))

share_zero : (a c : ℕ → ℕ) (n j : ℕ) → ((i : ℕ) → i < n → c i ≡ 0) → share_of a c n j ≡ 0
unfolding share_of
share_zero a c n j e =
    total_zero n (λ i. product (c i) (expo (power (a i)) j))
    (λ i h. ap (λ (x : ℕ). product x (expo (power (a i)) j)) (e i h) ∙ zero_product (expo (power (a i)) j))

pub share_mix : (a c d : ℕ → ℕ) (n j y : ℕ) → sum (product y (share_of a c n j)) (share_of a d n j) ≡ share_of a (λ i. sum (product y (c i)) (d i)) n j
unfolding share_of
share_mix a c d n j y =
    let f : ℕ → ℕ = λ i. product (c i) (expo (power (a i)) j) in
    let g : ℕ → ℕ = λ i. product (d i) (expo (power (a i)) j) in
    ap (λ (x : ℕ). sum x (total n g)) (sym (total-product n y f))
    ∙ sym (total-sum n (λ i. product y (f i)) g)
    ∙ total_ext n (λ i. sum (product y (f i)) (g i)) (λ i. product (sum (product y (c i)) (d i)) (expo (power (a i)) j))
    (λ i h. mix y (c i) (d i) (expo (power (a i)) j))
  where
    mix : (y c d p : ℕ) → sum (product y (product c p)) (product d p) ≡ product (sum (product y c) d) p
    mix y c d p = simp ring

-- the next entry, of values times their locators
share_next : (a c : ℕ → ℕ) (n j : ℕ) → share_of a c n (suc j) ≡ share_of a (λ i. product (power (a i)) (c i)) n j
unfolding share_of
share_next a c n j =
    total_ext n (λ i. product (c i) (expo (power (a i)) (suc j))) (λ i. product (product (power (a i)) (c i)) (expo (power (a i)) j))
    (λ i h. ap (product (c i)) (expo-suc (power (a i)) j) ∙ next (c i) (power (a i)) (expo (power (a i)) j))
  where
    next : (c x p : ℕ) → product c (product x p) ≡ product (product x c) p
    next c x p = simp ring

-- ---- what is left of the value at place i after k places

unfoldable pub left_of : (ℕ → ℕ) → (ℕ → ℕ) → ℕ → ℕ → ℕ
left_of a c zero i = c i
left_of a c (suc k) i = product (sum (power (a i)) (power (a k))) (left_of a c k i)

left_zero : (a c : ℕ → ℕ) (k i : ℕ) → i < k → left_of a c k i ≡ 0
unfolding left_of
left_zero a c zero i h = absurd (omega arith)
left_zero a c (suc k) i h =
    ⊎_elim
    (λ (q : i ≡ k). rw (sym q) (ap (λ (x : ℕ). product x (left_of a c i i)) (sum_self (power (a i))) ∙ zero_product (left_of a c i i)))
    (λ (q : i < k). ap (product (sum (power (a i)) (power (a k)))) (left_zero a c k i q) ∙ product_zero (sum (power (a i)) (power (a k))))
    (below_suc h)

pub shifts_share : (a c : ℕ → ℕ) (n k j : ℕ) → shifts_of a (share_of a c n) k j ≡ share_of a (left_of a c k) n j
unfolding shifts_of left_of
shifts_share a c n zero j = refl
shifts_share a c n (suc k) j =
    let d : ℕ → ℕ = left_of a c k in
    let y : ℕ = power (a k) in
    ap₂ (λ (u v : ℕ). sum u (product y v)) (shifts_share a c n k (suc j) ∙ share_next a d n j) (shifts_share a c n k j)
    ∙ sum_comm (share_of a (λ i. product (power (a i)) (d i)) n j) (product y (share_of a d n j))
    ∙ share_mix a d (λ i. product (power (a i)) (d i)) n j y
    ∙ share_ext a (λ i. sum (product y (d i)) (product (power (a i)) (d i))) (left_of a c (suc k)) n j (λ i h. joined y (power (a i)) (d i))
  where
    joined : (y x d : ℕ) → sum (product y d) (product x d) ≡ product (sum x y) d
    joined y x d = simp ring

-- ---- after k places, entry j is made of the entries j to j + k

pub shifts_same : (a s t : ℕ → ℕ) (k j : ℕ) → ((i : ℕ) → i ≤ j + k → s i ≡ t i) → shifts_of a s k j ≡ shifts_of a t k j
unfolding shifts_of
shifts_same a s t zero j e = e j (omega arith)
shifts_same a s t (suc k) j e =
    ap₂ (λ (u v : ℕ). sum u (product (power (a k)) v)) (shifts_same a s t k (suc j) (λ i h. e i (omega arith))) (shifts_same a s t k j (λ i h. e i (omega arith)))

-- and entry j + k follows from it and from those before
shifts_last : (a s t : ℕ → ℕ) (k j : ℕ) → ((i : ℕ) → i < j + k → s i ≡ t i) → shifts_of a s k j ≡ shifts_of a t k j → s (j + k) ≡ t (j + k)
unfolding shifts_of
shifts_last a s t zero j e same = ap s (add-zero j) ∙ same ∙ ap t (sym (add-zero j))
shifts_last a s t (suc k) j e same =
    let m : j + suc k ≡ suc j + k = omega arith in
    let y : ℕ = power (a k) in
    let low : shifts_of a s k j ≡ shifts_of a t k j = shifts_same a s t k j (λ i h. e i (omega arith)) in
    ap s m
    ∙ shifts_last a s t k (suc j) (λ i h. e i (omega arith))
    (same_sum (shifts_of a s k (suc j)) (product y (shifts_of a s k j)) (shifts_of a t k (suc j)) (same ∙ ap (λ (v : ℕ). sum (shifts_of a t k (suc j)) (product y v)) (sym low)))
    ∙ ap t (sym m)

-- ---- all sixteen

shares_end : (a c : ℕ → ℕ) (n j : ℕ) → shifts_of a (share_of a c n) n j ≡ 0
shares_end a c n j = shifts_share a c n n j ∙ share_zero a (left_of a c n) n j (left_zero a c n)

pub agrees_tail : (at : List ℕ) (n : ℕ) (s c : List ℕ) → ((j : ℕ) → j < 16 → share_of (entries at) (entries c) n j ≡ get_or s j 0)
    → (j : ℕ) → n + j < 16 → shifts_of (entries at) (entries s) n j ≡ 0
agrees_tail at n s c all j h =
    shifts_same (entries at) (entries s) (share_of (entries at) (entries c) n) n j (λ i b. sym (all i (omega arith)))
    ∙ shares_end (entries at) (entries c) n j

module _ (at : List ℕ) (n : ℕ) (s c : List ℕ) (solved : Solved at n s c)
    (tail : (j : ℕ) → n + j < 16 → shifts_of (entries at) (entries s) n j ≡ 0) where
  below : (m j : ℕ) → m ≤ 16 → j < m → share_of (entries at) (entries c) n j ≡ get_or s j 0
  below zero j g h = absurd (omega arith)
  below (suc m) j g h =
      ⊎_elim
      (λ (q : j ≡ m). rw q
      (⊎_elim (λ (b : m < n). solved.solves m b)
      (λ (b : n ≤ m).
      let e : m - n + n ≡ m = omega arith in
      ap (share_of (entries at) (entries c) n) (sym e)
      ∙ shifts_last (entries at) (share_of (entries at) (entries c) n) (entries s) n (m - n) (λ i l. below m i (omega arith) (omega arith))
      (shares_end (entries at) (entries c) n (m - n) ∙ sym (tail (m - n) (omega arith)))
      ∙ ap (entries s) e) (cases_lt m n)))
      (λ (q : j < m). below m j (omega arith) q)
      (below_suc h)

pub tail_agrees : (at : List ℕ) (n : ℕ) (s c : List ℕ) → Solved at n s c
    → ((j : ℕ) → n + j < 16 → shifts_of (entries at) (entries s) n j ≡ 0) → (j : ℕ) → j < 16 → share_of (entries at) (entries c) n j ≡ get_or s j 0
tail_agrees at n s c solved tail j h = below at n s c solved tail 16 j (le_refl 16) h

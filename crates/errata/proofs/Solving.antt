-- Values at different places from as many syndromes. Shifting a place out of the syndromes, s_(j + 1) - X · s_j, leaves the equations of the other places, each value times
-- the difference of the locators; so the others follow first, and the place is what is left of the first syndrome. No minors, no determinants.
-- Assumes nothing.
use mathlib.Core.Path.{◌≡◌, sym, ap, ap₂, ◌∙◌}
use mathlib.Core.Logic.{◌≢◌}
use mathlib.Core.List.{List}
use Prim.Native.Nat.{ℕ, zero, suc, ◌+◌, ◌-◌, ◌<◌}
use native.Mathlib.Nat.{add-zero}
use native.Mathlib.Omega.{arith}
use lib.ListN.{get_or}
use Rattle.ground.specs.Bits.{sum}
use Rattle.ground.proofs.Sums.{sum_assoc, sum_comm, sum_self, sum_zero, zero_sum, sum_cancel}
use Rattle.field.specs.Field.{product, expo, power}
use Rattle.field.proofs.Laws.{ring, power_injective}
use Rattle.code.proofs.Lists.{sum-again}
use Rattle.code.proofs.Weights.{expo_zero, expo-suc, one_product}
use Rattle.code.specs.Total.{total}
use Rattle.errata.specs.InnerErrata.{share_of, Placed}
use Rattle.code.proofs.Totals.{total_ext, total_first, total-sum, total-product}

-- two different places have different locators
pub locators_apart : {at : List ℕ} {n : ℕ} → Placed n at → (k i : ℕ) → k < i → i < n → sum (power (get_or at i 0)) (power (get_or at k 0)) ≢ 0
locators_apart {at} placed k i h b z =
    placed.apart k i h b
    (sym (power_injective (get_or at i 0) (get_or at k 0) (placed.below i b) (placed.below k (omega arith))
    (sum_cancel (power (get_or at i 0)) (power (get_or at k 0)) z)))

-- what has the same sum with v is the same
pub same_sum : (u v w : ℕ) → sum u v ≡ sum w v → u ≡ w
same_sum u v w e = sym (sum-again v u) ∙ ap (sum v) (sum_comm v u ∙ e ∙ sum_comm w v) ∙ sum-again v w

-- ---- what the places from place k on add to syndrome j

unfoldable pub tail_of : (ℕ → ℕ) → (ℕ → ℕ) → ℕ → ℕ → ℕ → ℕ
tail_of a c n k j = total (n - k) (λ i. product (c (k + i)) (expo (power (a (k + i))) j))

tail_first : (a c : ℕ → ℕ) (n k j : ℕ) → k < n → tail_of a c n k j ≡ sum (product (c k) (expo (power (a k)) j)) (tail_of a c n (suc k) j)
unfolding tail_of
tail_first a c n k j h =
    let m : n - k ≡ suc (n - suc k) = omega arith in
    let f : ℕ → ℕ = λ i. product (c (k + i)) (expo (power (a (k + i))) j) in
    ap (λ (x : ℕ). total x f) m
    ∙ total_first (n - suc k) f
    ∙ ap₂ sum (ap (λ (x : ℕ). product (c x) (expo (power (a x)) j)) (add-zero k))
    (total_ext (n - suc k) (λ i. f (suc i)) (λ i. product (c (suc k + i)) (expo (power (a (suc k + i))) j))
    (λ i b. ap (λ (x : ℕ). product (c x) (expo (power (a x)) j)) (step i)))
  where
    step : (i : ℕ) → k + suc i ≡ suc k + i
    step i = omega arith

pub tail_share : (a c : ℕ → ℕ) (n j : ℕ) → tail_of a c n 0 j ≡ share_of a c n j
unfolding tail_of share_of
tail_share a c n j =
    let m : n - 0 ≡ n = omega arith in
    ap (λ (x : ℕ). total x (λ i. product (c (0 + i)) (expo (power (a (0 + i))) j))) m
    ∙ total_ext n (λ i. product (c (0 + i)) (expo (power (a (0 + i))) j)) (λ i. product (c i) (expo (power (a i)) j))
    (λ i h. ap (λ (x : ℕ). product (c x) (expo (power (a x)) j)) (step i))
  where
    step : (i : ℕ) → 0 + i ≡ i
    step i = omega arith

-- ---- the place k, whose locator is y, and those behind it

own : (y e p : ℕ) → sum (product e (product y p)) (product y (product e p)) ≡ 0
own y e p = ap (λ (x : ℕ). sum x (product y (product e p))) (swap y e p) ∙ sum_self (product y (product e p))
  where
    swap : (y e p : ℕ) → product e (product y p) ≡ product y (product e p)
    swap y e p = simp ring

other : (y e x p : ℕ) → sum (product e (product x p)) (product y (product e p)) ≡ product (product e (sum x y)) p
other y e x p = simp ring

gather : (y a b c d : ℕ) → sum (sum a b) (product y (sum c d)) ≡ sum (sum a (product y c)) (sum b (product y d))
gather y a b c d = simp ring

module _ (a : ℕ → ℕ) (n k : ℕ) (h : k < n) (c r : ℕ → ℕ)
    (divided : (i : ℕ) → k < i → i < n → product (r i) (sum (power (a i)) (power (a k))) ≡ c i) where
  -- of those behind it
  rest_shift : (j : ℕ) → sum (tail_of a r n (suc k) (suc j)) (product (power (a k)) (tail_of a r n (suc k) j)) ≡ tail_of a c n (suc k) j
  unfolding tail_of
  rest_shift j =
      let y : ℕ = power (a k) in
      let m : ℕ = n - suc k in
      let f : ℕ → ℕ = λ i. product (r (suc k + i)) (expo (power (a (suc k + i))) (suc j)) in
      let g : ℕ → ℕ = λ i. product (r (suc k + i)) (expo (power (a (suc k + i))) j) in
      ap (sum (total m f)) (sym (total-product m y g))
      ∙ sym (total-sum m f (λ i. product y (g i)))
      ∙ total_ext m (λ i. sum (f i) (product y (g i))) (λ i. product (c (suc k + i)) (expo (power (a (suc k + i))) j))
      (λ i b.
      let l : ℕ = suc k + i in
      ap (λ (p : ℕ). sum (product (r l) p) (product y (g i))) (expo-suc (power (a l)) j)
      ∙ other y (r l) (power (a l)) (expo (power (a l)) j)
      ∙ ap (λ (x : ℕ). product x (expo (power (a l)) j)) (divided l (omega arith) (omega arith)))

  -- shifted out, the place is gone, and the others have their values times the difference of the locators
  tail_shift : (j : ℕ) → sum (tail_of a r n k (suc j)) (product (power (a k)) (tail_of a r n k j)) ≡ tail_of a c n (suc k) j
  tail_shift j =
      let y : ℕ = power (a k) in
      let e : ℕ = r k in
      let p : ℕ = expo y j in
      ap₂ (λ (u v : ℕ). sum u (product y v)) (tail_first a r n k (suc j) h) (tail_first a r n k j h)
      ∙ ap (λ (q : ℕ). sum (sum (product e q) (tail_of a r n (suc k) (suc j))) (product y (sum (product e p) (tail_of a r n (suc k) j)))) (expo-suc y j)
      ∙ gather y (product e (product y p)) (tail_of a r n (suc k) (suc j)) (product e p) (tail_of a r n (suc k) j)
      ∙ ap₂ sum (own y e p) (rest_shift j)
      ∙ zero_sum (tail_of a c n (suc k) j)

  -- the sum of the values, where there are bytes only
  tail_zero : ((i : ℕ) → r i < 256) → tail_of a r n (suc k) 0 ≡ total (n - suc k) (λ i. r (suc k + i))
  unfolding tail_of
  tail_zero bytes =
      total_ext (n - suc k) (λ i. product (r (suc k + i)) (expo (power (a (suc k + i))) 0)) (λ i. r (suc k + i))
      (λ i b. ap (product (r (suc k + i))) (expo_zero (power (a (suc k + i)))) ∙ one_product (r (suc k + i)) (bytes (suc k + i)))

  -- the equations of the places from place k on, from those of the places behind it
  module _ (s : ℕ → ℕ) (bytes : (i : ℕ) → r i < 256) (head : r k ≡ sum (s 0) (total (n - suc k) (λ i. r (suc k + i))))
      (behind : (j : ℕ) → suc k + j < n → tail_of a c n (suc k) j ≡ sum (s (suc j)) (product (power (a k)) (s j))) where
    pub tail_solved : (j : ℕ) → k + j < n → tail_of a r n k j ≡ s j
    tail_solved zero b =
        let t : ℕ = total (n - suc k) (λ i. r (suc k + i)) in
        tail_first a r n k 0 h
        ∙ ap₂ sum (ap (product (r k)) (expo_zero (power (a k))) ∙ one_product (r k) (bytes k) ∙ head) (tail_zero bytes)
        ∙ sum_assoc (s 0) t t
        ∙ ap (sum (s 0)) (sum_self t)
        ∙ sum_zero (s 0)
    tail_solved (suc j) b =
        let y : ℕ = power (a k) in
        let was : tail_of a r n k j ≡ s j = tail_solved j (omega arith) in
        same_sum (tail_of a r n k (suc j)) (product y (s j)) (s (suc j))
        (ap (λ (x : ℕ). sum (tail_of a r n k (suc j)) (product y x)) (sym was) ∙ tail_shift j ∙ behind j (omega arith))

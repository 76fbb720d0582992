-- The laws of sums over a range.
-- Assumes nothing.
use mathlib.Core.Path.{◌≡◌, refl, sym, ap, ap₂, ◌∙◌}
use mathlib.Core.Logic.{◌≢◌, ⊎_elim}
use Prim.Native.Nat.{ℕ, zero, suc, ◌+◌, ◌≤◌, ◌<◌}
use native.Mathlib.Nat.{le_refl, add-zero, add-suc}
use native.Mathlib.Omega.{arith}
use Rattle.ground.specs.Bits.{sum}
use Rattle.ground.proofs.Sums.{sum_assoc, sum_zero, zero_sum, swap4}
use Rattle.ground.proofs.Numbers.{below_suc}
use Rattle.field.specs.Field.{product}
use Rattle.field.proofs.Laws.{sum-byte, product_zero, product-sum-right}
use Rattle.code.specs.Total.{total}

pub total_ext : (n : ℕ) (f g : ℕ → ℕ) → ((k : ℕ) → k < n → f k ≡ g k) → total n f ≡ total n g
unfolding total
total_ext zero f g e = refl
total_ext (suc n) f g e = ap₂ sum (total_ext n f g (λ k h. e k (omega arith))) (e n (le_refl (suc n)))

-- the rest adds nothing
pub total-more : (n d : ℕ) (f : ℕ → ℕ) → ((k : ℕ) → n ≤ k → k < n + d → f k ≡ 0) → total (n + d) f ≡ total n f
unfolding total
total-more n zero f e = ap (λ (k : ℕ). total k f) (add-zero n)
total-more n (suc d) f e =
    ap (λ (k : ℕ). total k f) (add-suc n d)
    ∙ ap₂ sum (total-more n d f (λ k l h. e k l (omega arith))) (e (n + d) (omega arith) (omega arith))
    ∙ sum_zero (total n f)

pub total_first : (n : ℕ) (f : ℕ → ℕ) → total (suc n) f ≡ sum (f 0) (total n (λ k. f (suc k)))
unfolding total
total_first zero f = zero_sum (f 0) ∙ sym (sum_zero (f 0))
total_first (suc n) f = ap (λ (x : ℕ). sum x (f (suc n))) (total_first n f) ∙ sum_assoc (f 0) (total n (λ k. f (suc k))) (f (suc n))

pub total-sum : (n : ℕ) (f g : ℕ → ℕ) → total n (λ k. sum (f k) (g k)) ≡ sum (total n f) (total n g)
unfolding total
total-sum zero f g = sym (zero_sum 0)
total-sum (suc n) f g = ap (λ (x : ℕ). sum x (sum (f n) (g n))) (total-sum n f g) ∙ swap4 (total n f) (total n g) (f n) (g n)

pub total-product : (n c : ℕ) (f : ℕ → ℕ) → total n (λ k. product c (f k)) ≡ product c (total n f)
unfolding total
total-product zero c f = sym (product_zero c)
total-product (suc n) c f =
    ap (λ (x : ℕ). sum x (product c (f n))) (total-product n c f) ∙ sym (product-sum-right c (total n f) (f n))

pub total_zero : (n : ℕ) (f : ℕ → ℕ) → ((k : ℕ) → k < n → f k ≡ 0) → total n f ≡ 0
unfolding total
total_zero zero f e = refl
total_zero (suc n) f e = ap₂ sum (total_zero n f (λ k h. e k (omega arith))) (e n (le_refl (suc n))) ∙ sum_zero 0

-- all but one add nothing
pub total_one : (n k : ℕ) (f : ℕ → ℕ) → k < n → ((i : ℕ) → i < n → i ≢ k → f i ≡ 0) → total n f ≡ f k
unfolding total
total_one zero k f h e = absurd (omega arith)
total_one (suc n) k f h e =
    ⊎_elim
    (λ (q : k ≡ n). ap₂ sum (total_zero n f (λ i b. e i (omega arith) (λ z. omega arith))) (ap f (sym q)) ∙ zero_sum (f k))
    (λ (q : k < n). ap₂ sum (total_one n k f q (λ i b. e i (omega arith))) (e n (le_refl (suc n)) (λ z. omega arith)) ∙ sum_zero (f k))
    (below_suc h)

pub total-byte : (n : ℕ) (f : ℕ → ℕ) → ((k : ℕ) → k < n → f k < 256) → total n f < 256
unfolding total
total-byte zero f b = omega arith
total-byte (suc n) f b = sum-byte (total n f) (f n) (total-byte n f (λ k h. b k (omega arith))) (b n (le_refl (suc n)))

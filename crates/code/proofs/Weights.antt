-- Weights vanish (document 01, section 3: repair): if the first n moments of terms at different points, at most n of them not zero, are nothing, then every term is. Drop the term at X and take the weight
-- times (x - X), whose moments are the next moment less X times this one. Rows are such terms: byte i of a row stands at the point α^(254 - i).
-- Assumes nothing.
use mathlib.Core.Path.{◌≡◌, refl, sym, ap, ap₂, ◌∙◌}
use mathlib.Core.Logic.{◌≢◌, ⊎_elim}
use mathlib.Core.Bool.{Bool, true, false, cond}
use mathlib.Core.List.{List, [], ◌∷◌}
use Prim.Native.Nat.{ℕ, zero, suc, ◌+◌, ◌≤◌, ◌<◌, zero-le, suc-le-suc}
use native.Mathlib.Nat.{le_of_suc-le-suc, not-suc-le-zero, zero-lt-suc, mul_comm, le_trans, le-suc}
use native.Mathlib.Omega.{arith}
use lib.Dec.{eqb}
use lib.ListN.{length, get_or}
use borrow.Author.Tests.{eqb-true}
use Rattle.ground.specs.Bits.{sum}
use Rattle.ground.proofs.Sums.{sum_self, sum_zero, zero_sum, sum_cancel}
use Rattle.field.specs.Field.{product, power, expo}
pub use Rattle.field.proofs.Raising.{expo_zero, expo-suc, expo-add, one_product}
use Rattle.field.proofs.Laws.{ring, sum-byte, product-byte, product_assoc, product_one, zero_product, product_zero, zero_divisor, power-byte, power_injective, expo-byte, expo-power}
use Rattle.code.specs.Code.{Bytes}
use Rattle.code.specs.Value.{value}
use Rattle.code.proofs.Lists.{zeros}

-- ---- powers of any element

swap_power : (i j : ℕ) → expo (power i) j ≡ expo (power j) i
swap_power i j = expo-power i j ∙ ap power (mul_comm i j) ∙ sym (expo-power j i)

-- ---- terms

-- a coefficient at a point
pub record Term : Type 0 where
  pub coef : ℕ
  pub point : ℕ

-- the sum of c · g(X) · X^j over the terms
unfoldable pub moment : (ℕ → ℕ) → List Term → ℕ → ℕ
moment g [] j = zero
moment g (t ∷ ts) j = sum (product (product t.coef (g t.point)) (expo t.point j)) (moment g ts j)

-- how many coefficients are not zero
unfoldable pub weight : List Term → ℕ
weight [] = zero
weight (t ∷ ts) = cond (eqb t.coef 0) (weight ts) (suc (weight ts))

-- each c · g(X) is zero
unfoldable pub Vanish : (ℕ → ℕ) → List Term → Type 0
Vanish g [] = Unit {0}
Vanish g (t ∷ ts) = (product t.coef (g t.point) ≡ 0) × Vanish g ts

-- no point is x
unfoldable pub Apart : ℕ → List Term → Type 0
Apart x [] = Unit {0}
Apart x (t ∷ ts) = (t.point ≢ x) × Apart x ts

-- the points are bytes, and no two are one
unfoldable pub Distinct : List Term → Type 0
Distinct [] = Unit {0}
Distinct (t ∷ ts) = (t.point < 256) × Apart t.point ts × Distinct ts

-- the weight 1
abbrev pub one : ℕ → ℕ
one x = 1

-- the weight g times (x - y)
abbrev pub shifted : (ℕ → ℕ) → ℕ → ℕ → ℕ
shifted g y x = product (g x) (sum x y)

-- ---- moments

shift_term : (c g x y p : ℕ) → product (product c (product g (sum x y))) p ≡ sum (product (product c g) (product x p)) (product y (product (product c g) p))
shift_term c g x y p = simp ring

gather : (a b m n y : ℕ) → sum (sum a (product y b)) (sum m (product y n)) ≡ sum (sum a m) (product y (sum b n))
gather a b m n y = simp ring

pub moment_shift : (g : ℕ → ℕ) (y : ℕ) (ts : List Term) (j : ℕ) → moment (shifted g y) ts j ≡ sum (moment g ts (suc j)) (product y (moment g ts j))
unfolding moment
moment_shift g y [] j = sym (zero_sum (product y zero) ∙ product_zero y)
moment_shift g y (t ∷ ts) j =
    let k : ℕ = product t.coef (g t.point) in
    let p : ℕ = expo t.point j in
    ap₂ sum (shift_term t.coef (g t.point) t.point y p) (moment_shift g y ts j)
    ∙ gather (product k (product t.point p)) (product k p) (moment g ts (suc j)) (moment g ts j) y
    ∙ ap (λ (z : ℕ). sum (sum (product k z) (moment g ts (suc j))) (product y (sum (product k p) (moment g ts j)))) (sym (expo-suc t.point j))

pub moment_vanish : (g : ℕ → ℕ) (ts : List Term) (j : ℕ) → Vanish g ts → moment g ts j ≡ 0
unfolding moment Vanish
moment_vanish g [] j v = refl
moment_vanish g (t ∷ ts) j v =
    ap₂ sum (ap (λ (x : ℕ). product x (expo t.point j)) v.0 ∙ zero_product (expo t.point j)) (moment_vanish g ts j v.1) ∙ zero_sum 0

-- a term that vanishes adds nothing
pub moment_skip : (g : ℕ → ℕ) (t : Term) (ts : List Term) (j : ℕ) → product t.coef (g t.point) ≡ 0 → moment g (t ∷ ts) j ≡ moment g ts j
unfolding moment
moment_skip g t ts j e =
    ap (λ (x : ℕ). sum (product x (expo t.point j)) (moment g ts j)) e
    ∙ ap (λ (x : ℕ). sum x (moment g ts j)) (zero_product (expo t.point j))
    ∙ zero_sum (moment g ts j)

-- where the others vanish, the first term is the moment
pub moment_first : (g : ℕ → ℕ) (t : Term) (ts : List Term) → Vanish g ts → moment g (t ∷ ts) 0 ≡ product t.coef (g t.point)
unfolding moment
moment_first g t ts v =
    let a : ℕ = product t.coef (g t.point) in
    ap₂ sum (ap (product a) (expo_zero t.point) ∙ one_product a (product-byte t.coef (g t.point))) (moment_vanish g ts 0 v) ∙ sum_zero a

-- ---- weights vanish

unshift_term : (c g x y : ℕ) → x < 256 → y < 256 → x ≢ y → product c (product g (sum x y)) ≡ 0 → product c g ≡ 0
unshift_term c g x y hx hy n e =
    ⊎_elim (λ (z : product c g ≡ 0). z) (λ (z : sum x y ≡ 0). absurd (n (sum_cancel x y z)))
    (zero_divisor (product c g) (sum x y) (product-byte c g) (sum-byte x y hx hy) (product_assoc c g (sum x y) ∙ e))

unshift : (g : ℕ → ℕ) (y : ℕ) (ts : List Term) → y < 256 → Apart y ts → Distinct ts → Vanish (shifted g y) ts → Vanish g ts
unfolding Apart Distinct Vanish
unshift g y [] hy a d v = tt
unshift g y (t ∷ ts) hy a d v =
    (unshift_term t.coef (g t.point) t.point y d.0 hy a.0 v.0, unshift g y ts hy a.1 d.2 v.1)

shifted_self : (g : ℕ → ℕ) (c y : ℕ) → product c (shifted g y y) ≡ 0
shifted_self g c y = ap (λ (x : ℕ). product c (product (g y) x)) (sum_self y) ∙ ap (product c) (product_zero (g y)) ∙ product_zero c

abbrev Claim : List Term → Type 0
Claim ts = (g : ℕ → ℕ) (n : ℕ) → weight ts ≤ n → Distinct ts → ((j : ℕ) → j < n → moment g ts j ≡ 0) → Vanish g ts

step : (t : Term) (ts : List Term) → Claim ts → (g : ℕ → ℕ) (n : ℕ) (b : Bool) → eqb t.coef 0 ≡ b → cond b (weight ts) (suc (weight ts)) ≤ n
    → Distinct (t ∷ ts) → ((j : ℕ) → j < n → moment g (t ∷ ts) j ≡ 0) → Vanish g (t ∷ ts)
unfolding Distinct Vanish
step t ts ih g n true e w d m =
    let z : product t.coef (g t.point) ≡ 0 = ap (λ (x : ℕ). product x (g t.point)) (eqb-true t.coef 0 e) ∙ zero_product (g t.point) in
    (z, ih g n w d.2 (λ j h. sym (moment_skip g t ts j z) ∙ m j h))
step t ts ih g zero false e w d m = absurd (not-suc-le-zero w)
step t ts ih g (suc n) false e w d m =
    let y : ℕ = t.point in
    let v : Vanish (shifted g y) ts =
    ih (shifted g y) n (le_of_suc-le-suc w) d.2
    (λ j h. sym (moment_skip (shifted g y) t ts j (shifted_self g t.coef y))
    ∙ moment_shift g y (t ∷ ts) j
    ∙ ap₂ (λ (a b : ℕ). sum a (product y b)) (m (suc j) (suc-le-suc h)) (m j (omega arith))
    ∙ zero_sum (product y 0)
    ∙ product_zero y) in
    let u : Vanish g ts = unshift g y ts d.0 d.1 d.2 v in
    (sym (moment_first g t ts u) ∙ m zero (zero-lt-suc n), u)

pub weights_vanish : (ts : List Term) (g : ℕ → ℕ) (n : ℕ) → weight ts ≤ n → Distinct ts → ((j : ℕ) → j < n → moment g ts j ≡ 0) → Vanish g ts
unfolding weight Vanish
weights_vanish [] g n w d m = tt
weights_vanish (t ∷ ts) g n w d m = step t ts (weights_vanish ts) g n (eqb t.coef 0) refl w d m

-- ---- rows as terms

-- the coefficient of x^k stands at the point α^k
unfoldable pub terms : List ℕ → List Term
terms [] = []
terms (c ∷ cs) = record { coef = c; point = power (length cs) } ∷ terms cs

-- the moments of a row are its values
pub moment_value : (row : List ℕ) (j : ℕ) → moment one (terms row) j ≡ value row (power j)
unfolding moment terms value
moment_value [] j = refl
moment_value (c ∷ cs) j =
    ap₂ sum
    (product_assoc c 1 (expo (power (length cs)) j)
    ∙ ap (product c) (product_one (expo (power (length cs)) j) (expo-byte (power (length cs)) j) ∙ swap_power (length cs) j))
    (moment_value cs j)

terms_apart : (k : ℕ) (row : List ℕ) → length row ≤ k → k < 255 → Apart (power k) (terms row)
unfolding Apart terms
terms_apart k [] h n = tt
terms_apart k (c ∷ cs) h n = (
  (λ e. let z : length cs ≡ k = power_injective (length cs) k (omega arith) n e in omega arith),
  terms_apart k cs (omega arith) n,
)

pub terms_distinct : (row : List ℕ) → length row ≤ 255 → Distinct (terms row)
unfolding Distinct terms
terms_distinct [] n = tt
terms_distinct (c ∷ cs) n = (power-byte (length cs), terms_apart (length cs) cs (omega arith) (omega arith), terms_distinct cs (omega arith))

pub weight_length : (row : List ℕ) → weight (terms row) ≤ length row
unfolding weight terms
weight_length [] = zero-le
weight_length (c ∷ cs) = either (eqb c 0) (weight_length cs)
  where
    either : (b : Bool) → weight (terms cs) ≤ length cs → cond b (weight (terms cs)) (suc (weight (terms cs))) ≤ suc (length cs)
    either true h = le_trans h (le-suc (length cs))
    either false h = suc-le-suc h

-- at byte i, where k bytes stand behind it
pub vanish_at : (g : ℕ → ℕ) (e : List ℕ) → Vanish g (terms e) → (i k : ℕ) → i + suc k ≡ length e → product (get_or e i 0) (g (power k)) ≡ 0
unfolding Vanish terms
vanish_at g [] v i k h = absurd (omega arith)
vanish_at g (c ∷ cs) v zero k h = let n : k ≡ length cs = omega arith in ap (λ (m : ℕ). product c (g (power m))) n ∙ v.0
vanish_at g (c ∷ cs) v (suc i) k h = vanish_at g cs v.1 i k (omega arith)

pub vanish_from : (g : ℕ → ℕ) (e : List ℕ) → ((i k : ℕ) → i + suc k ≡ length e → product (get_or e i 0) (g (power k)) ≡ 0) → Vanish g (terms e)
unfolding Vanish terms
vanish_from g [] z = tt
vanish_from g (c ∷ cs) z = (z 0 (length cs) (omega arith), vanish_from g cs (λ i k h. z (suc i) k (omega arith)))

-- where the weight is 1, every byte is zero
pub vanish_zeros : (row : List ℕ) → Bytes row → Vanish one (terms row) → row ≡ zeros (length row)
unfolding Bytes Vanish terms
vanish_zeros [] b v = refl
vanish_zeros (c ∷ cs) b v = ap₂ ◌∷◌ (sym (one_product c b.0) ∙ v.0) (vanish_zeros cs b.1 v.1)

-- a row of at most 255 bytes, at most n of them not zero, that is nothing at α^0 .. α^(n - 1), is zero
pub values_zeros : (n : ℕ) (row : List ℕ) → length row ≤ 255 → Bytes row → weight (terms row) ≤ n → ((j : ℕ) → j < n → value row (power j) ≡ 0) → row ≡ zeros (length row)
values_zeros n row l b w z =
    vanish_zeros row b (weights_vanish (terms row) one n w (terms_distinct row l) (λ j h. moment_value row j ∙ z j h))

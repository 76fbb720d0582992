-- A row at a point (document 01, section 3: the roots are α^0 to α^15). The value of a sum is the sum of the values and that of a product their product, so the generator, a product of (x - α^i), is nothing at α^0 .. α^15,
-- and a row has there the values of its remainder. A remainder has sixteen bytes, so it is zero if those values are: a row is coded exactly if it is nothing at all sixteen.
-- Assumes nothing.
use mathlib.Core.Path.{◌≡◌, refl, sym, ap, ap₂, ◌∙◌}
use mathlib.Core.Logic.{⊎_elim}
use mathlib.Core.List.{List, [], ◌∷◌, ◌++◌}
use Prim.Native.Nat.{ℕ, zero, suc, ◌+◌, ◌-◌, ◌≤◌, ◌<◌}
use native.Mathlib.Nat.{le_of_suc-le-suc, not-suc-le-zero, eq-or-lt_of_le}
use native.Mathlib.Numerals.{add-one}
use native.Mathlib.Omega.{arith}
use lib.ListN.{length, get_or, take, set, length-append, length-set}
use lib.Seq.{take-suc}
use Rattle.ground.specs.Bits.{sum}
use Rattle.ground.proofs.Sums.{sum_assoc, sum_self, sum_zero, zero_sum, sum_cancel}
use Rattle.field.specs.Field.{product, power, expo, carryless, reduce}
use Rattle.field.proofs.Laws.{ring, sum-byte, product-byte, product_assoc, product-sum-right, product_one, zero_product, product_zero, power-byte, expo-byte}
use Rattle.code.specs.Code.{Bytes, add, scale, times, generator, Coded}
use Rattle.code.specs.Search.{lower, remainder}
use Rattle.code.specs.Value.{value}
use Rattle.code.proofs.Lists.{zeros, length-add, length-scale, add_nil, times_nil, times_cons, length-times}
use Rattle.code.proofs.Division.{generator-lower, length-lower, length-multiple, left, length-remainder, remainder-bytes, coded-remainder, remainder-coded}
use Rattle.code.proofs.Weights.{expo_zero, expo-suc, expo-add, one_product, terms, weight, weight_length, values_zeros}

-- ---- ends and steps

pub value_nil : (x : ℕ) → value [] x ≡ 0
unfolding value
value_nil x = refl

pub value_cons : (c : ℕ) (w : List ℕ) (x : ℕ) → value (c ∷ w) x ≡ sum (product c (expo x (length w))) (value w x)
unfolding value
value_cons c w x = refl

pub value-byte : (w : List ℕ) (x : ℕ) → value w x < 256
unfolding value
value-byte [] x = omega arith
value-byte (c ∷ w) x = sum-byte _ _ (product-byte c (expo x (length w))) (value-byte w x)

pub value_single : (c x : ℕ) → c < 256 → value (c ∷ []) x ≡ c
value_single c x h =
    value_cons c [] x ∙ ap₂ (λ (e v : ℕ). sum (product c e) v) (expo_zero x) (value_nil x) ∙ sum_zero (product c 1) ∙ one_product c h

-- a leading zero does not count
pub value_zero : (w : List ℕ) (x : ℕ) → value (0 ∷ w) x ≡ value w x
value_zero w x = value_cons 0 w x ∙ ap (λ (z : ℕ). sum z (value w x)) (zero_product (expo x (length w))) ∙ zero_sum (value w x)

pub value_zeros : (n : ℕ) (x : ℕ) → value (zeros n) x ≡ 0
value_zeros zero x = value_nil x
value_zeros (suc n) x = value_zero (zeros n) x ∙ value_zeros n x

append-step : (c e f v w : ℕ) → sum (product c (product e f)) (sum (product v f) w) ≡ sum (product (sum (product c e) v) f) w
append-step c e f v w = simp ring

pub value-append : (a b : List ℕ) (x : ℕ) → value (a ++ b) x ≡ sum (product (value a x) (expo x (length b))) (value b x)
unfolding value
value-append [] b x = sym (ap (λ (z : ℕ). sum z (value b x)) (zero_product (expo x (length b))) ∙ zero_sum (value b x))
value-append (c ∷ a) b x =
    ap₂ (λ (e v : ℕ). sum (product c e) v) (ap (expo x) (length-append a b) ∙ expo-add x (length a) (length b)) (value-append a b x)
    ∙ append-step c (expo x (length a)) (expo x (length b)) (value a x) (value b x)

-- Horner's step: one more byte
pub value-more : (w : List ℕ) (c x : ℕ) → c < 256 → value (w ++ (c ∷ [])) x ≡ sum (product (value w x) x) c
value-more w c x h =
    value-append w (c ∷ []) x
    ∙ ap₂ sum (ap (product (value w x)) (expo-suc x 0 ∙ ap (product x) (expo_zero x)) ∙ sym (product_assoc (value w x) x 1) ∙ one_product _ (product-byte (value w x) x))
    (value_single c x h)

pub value-take : (w : List ℕ) (i x : ℕ) → i < length w → get_or w i 0 < 256 → value (take (i + 1) w) x ≡ sum (product (value (take i w) x) x) (get_or w i 0)
value-take w i x h b =
    ap (λ (l : List ℕ). value l x) (ap (λ (n : ℕ). take n w) (add-one i) ∙ take-suc w i 0 h) ∙ value-more (take i w) (get_or w i 0) x b

-- ---- sums, multiples, products

over_step : (c d e k s p q : ℕ) → e ≡ product s k → sum (product (sum c d) e) (sum (product p k) q) ≡ sum (product (sum (product c s) p) k) (sum (product d e) q)
over_step c d e k s p q h = rw h (simp ring)

-- a list that is k shorter stands k powers higher
pub value_over : (p w : List ℕ) (k x : ℕ) → length p + k ≡ length w → value (add p w) x ≡ sum (product (value p x) (expo x k)) (value w x)
unfolding value add
value_over [] w k x e = sym (ap (λ (z : ℕ). sum z (value w x)) (zero_product (expo x k)) ∙ zero_sum (value w x))
value_over (c ∷ p) [] k x e = absurd (omega arith)
value_over (c ∷ p) (d ∷ w) k x e =
    let n : length p + k ≡ length w = omega arith in
    ap₂ (λ (i v : ℕ). sum (product (sum c d) (expo x i)) v) (length-add p w (omega arith)) (value_over p w k x n)
    ∙ over_step c d (expo x (length w)) (expo x k) (expo x (length p)) (value p x) (value w x) (ap (expo x) (sym n) ∙ expo-add x (length p) k)

pub value-add : (a b : List ℕ) (x : ℕ) → length a ≡ length b → value (add a b) x ≡ sum (value a x) (value b x)
value-add a b x e =
    value_over a b 0 x (omega arith)
    ∙ ap (λ (z : ℕ). sum z (value b x)) (ap (product (value a x)) (expo_zero x) ∙ one_product (value a x) (value-byte a x))

pub value-scale : (a : ℕ) (w : List ℕ) (x : ℕ) → value (scale a w) x ≡ product a (value w x)
unfolding value scale
value-scale a [] x = sym (product_zero a)
value-scale a (c ∷ w) x =
    ap₂ (λ (i v : ℕ). sum (product (product a c) (expo x i)) v) (length-scale a w) (value-scale a w x)
    ∙ ap (λ (z : ℕ). sum z (product a (value w x))) (product_assoc a c (expo x (length w)))
    ∙ sym (product-sum-right a (product c (expo x (length w))) (value w x))

set-step : (c v e w : ℕ) → sum (product (sum c v) e) w ≡ sum (sum (product c e) w) (product v e)
set-step c v e w = simp ring

-- v more at byte i, where k bytes stand behind it
pub value_set : (w : List ℕ) (i k v x : ℕ) → i + suc k ≡ length w → value (set w i (sum (get_or w i 0) v)) x ≡ sum (value w x) (product v (expo x k))
unfolding value
value_set [] i k v x e = absurd (omega arith)
value_set (c ∷ w) zero k v x e =
    let n : k ≡ length w = omega arith in
    set-step c v (expo x (length w)) (value w x) ∙ ap (λ (m : ℕ). sum (sum (product c (expo x (length w))) (value w x)) (product v (expo x m))) (sym n)
value_set (c ∷ w) (suc i) k v x e =
    ap₂ (λ (m z : ℕ). sum (product c (expo x m)) z) (length-set w i (sum (get_or w i 0) v)) (value_set w i k v x (omega arith))
    ∙ sym (sum_assoc (product c (expo x (length w))) (value w x) (product v (expo x k)))

times-step : (a v e s : ℕ) → sum (product (product a v) e) (product s v) ≡ product (sum (product a e) s) v
times-step a v e s = simp ring

times_none : (q : List ℕ) (x : ℕ) → value (times q []) x ≡ 0
unfolding times scale add
times_none [] x = value_nil x
times_none (a ∷ q) x = value_zero (times q []) x ∙ times_none q x

times_one : (a y : ℕ) (g : List ℕ) → times (a ∷ []) (y ∷ g) ≡ scale a (y ∷ g)
unfolding times scale add
times_one a y g = ap₂ ◌∷◌ (sum_zero (product a y)) (add_nil (scale a g))

-- also where a is no byte
value_low : (a x v : ℕ) → v < 256 → product (value (a ∷ []) x) v ≡ product a v
unfolding value
value_low a x v h =
    ap (λ (z : ℕ). product z v) (sum_zero (product a (expo x 0)) ∙ ap (product a) (expo_zero x)) ∙ product_assoc a 1 v ∙ ap (product a) (product_one v h)

pub value-times : (q g : List ℕ) (x : ℕ) → value (times q g) x ≡ product (value q x) (value g x)
value-times q [] x = times_none q x ∙ sym (ap (product (value q x)) (value_nil x) ∙ product_zero (value q x))
value-times [] (y ∷ g) x =
    ap (λ (l : List ℕ). value l x) (times_nil (y ∷ g)) ∙ value_nil x
    ∙ sym (ap (λ (z : ℕ). product z (value (y ∷ g) x)) (value_nil x) ∙ zero_product (value (y ∷ g) x))
value-times (a ∷ []) (y ∷ g) x =
    ap (λ (l : List ℕ). value l x) (times_one a y g) ∙ value-scale a (y ∷ g) x ∙ sym (value_low a x (value (y ∷ g) x) (value-byte (y ∷ g) x))
value-times (a ∷ (b ∷ q)) (y ∷ g) x =
    let t : List ℕ = times (b ∷ q) (y ∷ g) in
    let n : length t ≡ suc (length q + length g) = length-times b q y g in
    let m : length (scale a (y ∷ g)) ≡ suc (length g) = length-scale a (y ∷ g) in
    ap (λ (l : List ℕ). value l x) (times_cons a (b ∷ q) (y ∷ g))
    ∙ value_over (scale a (y ∷ g)) (0 ∷ t) (length (b ∷ q)) x (omega arith)
    ∙ ap₂ (λ (u v : ℕ). sum (product u (expo x (length (b ∷ q)))) v) (value-scale a (y ∷ g) x) (value_zero t x ∙ value-times (b ∷ q) (y ∷ g) x)
    ∙ times-step a (value (y ∷ g) x) (expo x (length (b ∷ q))) (value (b ∷ q) x)
    ∙ ap (λ (z : ℕ). product z (value (y ∷ g) x)) (sym (value_cons a (b ∷ q) x))

-- ---- the generator's roots

-- (x - α^0) · .. · (x - α^(n - 1))
unfoldable pub factors : ℕ → List ℕ
factors zero = 1 ∷ []
factors (suc n) = times (1 ∷ power n ∷ []) (factors n)

-- computed
pub generator_factors : generator ≡ factors 16
unfolding generator factors times scale add product expo carryless reduce sum
generator_factors = refl

factor_zero : (y : ℕ) → y < 256 → value (1 ∷ y ∷ []) y ≡ 0
factor_zero y h =
    value-more (1 ∷ []) y y h
    ∙ ap (λ (z : ℕ). sum (product z y) y) (value_single 1 y (omega arith))
    ∙ ap (λ (z : ℕ). sum z y) (product_one y h)
    ∙ sum_self y

factors_zero : (n i : ℕ) → i < n → value (factors n) (power i) ≡ 0
unfolding factors
factors_zero zero i h = absurd (not-suc-le-zero h)
factors_zero (suc n) i h =
    let u : ℕ = value (1 ∷ power n ∷ []) (power i) in
    let v : ℕ = value (factors n) (power i) in
    value-times (1 ∷ power n ∷ []) (factors n) (power i)
    ∙ ⊎_elim
    (λ (e : i ≡ n). ap (λ (k : ℕ). product (value (1 ∷ power n ∷ []) (power k)) v) e
    ∙ ap (λ (z : ℕ). product z v) (factor_zero (power n) (power-byte n)) ∙ zero_product v)
    (λ (l : i < n). ap (product u) (factors_zero n i l) ∙ product_zero u)
    (eq-or-lt_of_le (le_of_suc-le-suc h))

pub generator-values : (j : ℕ) → j < 16 → value generator (power j) ≡ 0
generator-values j h = ap (λ (g : List ℕ). value g (power j)) generator_factors ∙ factors_zero 16 j h

-- ---- a row and its remainder

lower-value : (x : ℕ) → value generator x ≡ 0 → value lower x ≡ expo x 16
lower-value x z =
    sym
    (sum_cancel (expo x 16) (value lower x)
    (ap (λ (e : ℕ). sum e (value lower x)) (sym (product_one (expo x 16) (expo-byte x 16)) ∙ ap (λ (n : ℕ). product 1 (expo x n)) (sym length-lower))
    ∙ sym (value_cons 1 lower x)
    ∙ ap (λ (g : List ℕ). value g x) (sym generator-lower)
    ∙ z))

-- a turn of the division does not change the value at a root
turn_value : (a : ℕ) (w : List ℕ) (x : ℕ) → value generator x ≡ 0 → 16 ≤ length w → value (a ∷ w) x ≡ value (add (scale a lower) w) x
turn_value a w x z h =
    let k : ℕ = length w - 16 in
    let n : length (scale a lower) ≡ 16 = length-multiple a in
    let m : length w ≡ 16 + k = omega arith in
    value_cons a w x
    ∙ ap (λ (e : ℕ). sum (product a e) (value w x)) (ap (expo x) m ∙ expo-add x 16 k)
    ∙ ap (λ (e : ℕ). sum e (value w x)) (sym (product_assoc a (expo x 16) (expo x k)) ∙ ap (λ (e : ℕ). product e (expo x k)) (ap (product a) (sym (lower-value x z)) ∙ sym (value-scale a lower x)))
    ∙ sym (value_over (scale a lower) w k x (omega arith))

divided_value : (m : ℕ) (w : List ℕ) (x : ℕ) → value generator x ≡ 0 → length w ≡ m + 16 → value w x ≡ value (remainder m w) x
unfolding remainder
divided_value zero w x z e = refl
divided_value (suc m) [] x z e = refl
divided_value (suc m) (a ∷ w) x z e = turn_value a w x z (omega arith) ∙ divided_value m (add (scale a lower) w) x z (left m a w e)

pub value-remainder : (row : List ℕ) → length row ≡ 255 → (j : ℕ) → j < 16 → value row (power j) ≡ value (remainder 239 row) (power j)
value-remainder row e j h = divided_value 239 row (power j) (generator-values j h) e

pub coded-values : (row : List ℕ) → Coded row → (j : ℕ) → j < 16 → value row (power j) ≡ 0
coded-values row c j h =
    value-remainder row c.sized j h ∙ ap (λ (r : List ℕ). value r (power j)) (coded-remainder row c) ∙ value_zeros 16 (power j)

-- sixteen bytes that are nothing at sixteen points
sixteen_zeros : (r : List ℕ) → length r ≡ 16 → Bytes r → ((j : ℕ) → j < 16 → value r (power j) ≡ 0) → r ≡ zeros 16
sixteen_zeros r e b z =
    let w : weight (terms r) ≤ length r = weight_length r in
    values_zeros 16 r (omega arith) b (omega arith) z ∙ ap zeros e

pub values-coded : (row : List ℕ) → length row ≡ 255 → Bytes row → ((j : ℕ) → j < 16 → value row (power j) ≡ 0) → Coded row
values-coded row e b z =
    remainder-coded row e b
    (sixteen_zeros (remainder 239 row) (length-remainder 239 row e) (remainder-bytes 239 row b) (λ j h. sym (value-remainder row e j h) ∙ z j h))

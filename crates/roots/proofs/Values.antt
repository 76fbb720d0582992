-- Values of a polynomial, the constant first: coefficient by coefficient, and after its coefficients are multiplied by the powers of a point.
-- Assumes nothing.
use mathlib.Core.Path.{◌≡◌, refl, sym, ap, ap₂, ◌∙◌}
use mathlib.Core.List.{List, [], ◌∷◌}
use Prim.Native.Nat.{ℕ, zero, suc, ◌+◌, ◌*◌, ◌≤◌, ◌<◌, zero-le, suc-le-suc}
use native.Mathlib.Omega.{arith}
use lib.ListN.{length, get_or, drop}
use lib.Seq.{drop-cons, drop-nil}
use lib.Bits.{bit_xor}
use Rattle.std.specs.List.{fold}
use Rattle.ground.specs.Bits.{sum}
use Rattle.ground.proofs.Sums.{sum_assoc, sum_zero, zero_sum}
use Rattle.field.specs.Field.{product, expo, power}
use Rattle.field.proofs.Laws.{ring, product-byte, product_assoc, product_comm, product_one, product_zero, product-power, expo-byte, expo-power, power_zero}
use Rattle.code.specs.Code.{Bytes}
use Rattle.code.specs.Value.{eval}
use Rattle.code.proofs.Lists.{bytes_of}
use Rattle.code.proofs.Weights.{expo_zero, expo-suc, one_product}
use Rattle.code.proofs.Roots.{eval-byte}

eval_cons : (c : ℕ) (f : List ℕ) (x : ℕ) → eval (c ∷ f) x ≡ sum c (product x (eval f x))
unfolding eval
eval_cons c f x = refl

eval_nil : (x : ℕ) → eval [] x ≡ 0
unfolding eval
eval_nil x = refl

pub eval-drop : (w : List ℕ) (i x : ℕ) → i < length w → eval (drop i w) x ≡ sum (get_or w i 0) (product x (eval (drop (suc i) w) x))
eval-drop w i x h = ap (λ (l : List ℕ). eval l x) (drop-cons w i 0 h) ∙ eval_cons (get_or w i 0) (drop (suc i) w) x

-- what has no coefficient is nothing
pub eval-above : (w : List ℕ) (n x : ℕ) → ((m : ℕ) → n ≤ m → get_or w m 0 ≡ 0) → eval (drop n w) x ≡ 0
eval-above [] n x z = ap (λ (l : List ℕ). eval l x) (drop-nil n) ∙ eval_nil x
eval-above (c ∷ w) zero x z =
    eval_cons c w x
    ∙ ap₂ (λ (a b : ℕ). sum a (product x b)) (z 0 zero-le) (eval-above w 0 x (λ m h. z (suc m) zero-le))
    ∙ zero_sum (product x 0)
    ∙ product_zero x
eval-above (c ∷ w) (suc n) x z = eval-above w n x (λ m h. z (suc m) (suc-le-suc h))

-- ---- at 1 the coefficients are added

one_more : (c s : ℕ) (u : List ℕ) → Bytes u → sum (sum s c) (eval u (power 0)) ≡ sum s (eval (c ∷ u) (power 0))
one_more c s u bytes =
    let r : ℕ = eval u (power 0) in
    sum_assoc s c r
    ∙ ap (λ (z : ℕ). sum s (sum c z)) (sym (ap (λ (y : ℕ). product y r) power_zero ∙ product_one r (eval-byte u (power 0) bytes)))
    ∙ ap (sum s) (sym (eval_cons c u (power 0)))

fold_all : (v : List ℕ) (s : ℕ) → ((m : ℕ) → get_or v m 0 < 256) → fold sum s v ≡ sum s (eval v (power 0))
fold_all [] s fit = sym (ap (sum s) (eval_nil (power 0)) ∙ sum_zero s)
fold_all (c ∷ u) s fit = fold_all u (sum s c) (λ m. fit (suc m)) ∙ one_more c s u (bytes_of u (λ m. fit (suc m)))

pub fold_value : (v : List ℕ) (r : ℕ) → ((m : ℕ) → get_or v m 0 < 256) → r ≡ fold bit_xor 0 v → r ≡ eval v (power 0)
unfolding sum
fold_value v r fit e = e ∙ fold_all v 0 fit ∙ zero_sum (eval v (power 0))

-- ---- coefficients times the powers of y

stretch_first : (a c z x y f : ℕ) → a ≡ product c (product z 1) → sum a (product x (product (product z y) f)) ≡ product z (sum c (product (product y x) f))
stretch_first a c z x y f e =
    ap (λ (b : ℕ). sum b (product x (product (product z y) f)))
    (e ∙ sym (product_assoc c z 1) ∙ one_product (product c z) (product-byte c z) ∙ product_comm c z)
    ∙ simp ring

stretch : (u v : List ℕ) (x y z : ℕ) → length u ≡ length v → ((i : ℕ) → get_or u i 0 ≡ product (get_or v i 0) (product z (expo y i)))
    → eval u x ≡ product z (eval v (product y x))
unfolding eval
stretch [] [] x y z n e = sym (product_zero z)
stretch [] (c ∷ v) x y z n e = absurd (omega arith)
stretch (a ∷ u) [] x y z n e = absurd (omega arith)
stretch (a ∷ u) (c ∷ v) x y z n e =
    ap (λ (f : ℕ). sum a (product x f))
    (stretch u v x y (product z y) (omega arith)
    (λ i. e (suc i) ∙ ap (λ (f : ℕ). product (get_or v i 0) f) (ap (product z) (expo-suc y i) ∙ sym (product_assoc z y (expo y i)))))
    ∙ stretch_first a c z x y (eval v (product y x)) (e 0 ∙ ap (λ (f : ℕ). product c (product z f)) (expo_zero y))

-- t is v with each coefficient i multiplied by α^(a · i): its values are those of v, a exponents on
pub record Stretched (a : ℕ) (v t : List ℕ) : Type 0 where
  pub sized : length t ≡ length v
  pub entry : (i : ℕ) → get_or t i 0 ≡ product (get_or v i 0) (power (a * i))

pub stretched_value : {a : ℕ} {v t : List ℕ} → Stretched a v t → ((m : ℕ) → get_or v m 0 < 256) → (k : ℕ) → eval t (power k) ≡ eval v (power (a + k))
stretched_value {a} {v} {t} s fit k =
    let y : ℕ = power a in
    stretch t v (power k) y 1 s.sized
    (λ i. s.entry i ∙ ap (λ (f : ℕ). product (get_or v i 0) f) (sym (expo-power a i) ∙ sym (product_one (expo y i) (expo-byte y i))))
    ∙ product_one (eval v (product y (power k))) (eval-byte v (product y (power k)) (bytes_of v fit))
    ∙ ap (eval v) (product-power a k)

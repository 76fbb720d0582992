-- The polynomial moves on by eight exponents, one coefficient after the other: what is added, and what the coefficients that are left still add, make its values.
-- In front of it, the coefficients copied into words; each stays a byte.
-- Assumes nothing.
use mathlib.Core.Path.{◌≡◌, refl, sym, ap, ap₂, ◌∙◌}
use mathlib.Core.Logic.{⊎_elim}
use mathlib.Core.List.{List}
use Prim.Native.Nat.{ℕ, suc, ◌+◌, ◌*◌, ◌/◌, ◌%◌, ◌^◌, ◌≤◌, ◌<◌}
use native.Mathlib.Nat.{mul_comm, not-suc-le-zero, le_refl}
use native.Mathlib.Numerals.{add-one}
use native.Mathlib.Omega.{arith}
use lib.ListN.{length, get_or, drop, set, length-set}
use lib.Seq.{ext_get_or, get_or-set_same, get_or-set_other}
use lib.Bits.{bit_xor}
use Rattle.std.proofs.lemmas.Bool.{cases_lt}
use Rattle.ground.specs.Bits.{sum}
use Rattle.ground.proofs.Sums.{sum_zero}
use Rattle.field.specs.Field.{product, expo, power}
use Rattle.field.proofs.Laws.{ring, product-byte, product_zero, zero_product, power-byte, expo-power}
use Rattle.field.proofs.InWords.{byte_zero, byte-sum}
use Rattle.code.specs.Value.{eval}
use Rattle.code.proofs.Weights.{expo_zero, expo-suc, one_product}
use Rattle.words.specs.Words.{byte_at}
use Rattle.roots.specs.InnerWords.{Short, Moved}
use Rattle.ground.proofs.Numbers.{below_suc}
use Rattle.roots.proofs.Values.{Stretched, eval-drop, eval-above}

-- the first i entries of t are those of v
pub record Copied (v t : List ℕ) (i : ℕ) : Type 0 where
  pub sized : length t ≡ 9
  pub entry : (m : ℕ) → m < i → get_or t m 0 ≡ get_or v m 0

pub copied_more : {v t : List ℕ} {i : ℕ} → Copied v t i → i < 9 → (x : ℕ) → x ≡ get_or v i 0 → Copied v (set t i x) (i + 1)
copied_more {v} {t} {i} was h x e =
    let size : length t ≡ 9 = was.sized in
    record {
      sized = length-set t i x ∙ size;
      entry = λ m l. ⊎_elim (λ (q : m ≡ i). rw q (get_or-set_same t i x 0 (omega arith) ∙ e))
          (λ (q : m < i). get_or-set_other t i m x 0 (λ z. omega arith) ∙ was.entry m q)
          (below_suc (omega arith));
    }

pub copied_end : {v t : List ℕ} {i : ℕ} → Copied v t i → 9 ≤ i → length v ≡ 9 → t ≡ v
copied_end {v} {t} was h long =
    let size : length t ≡ 9 = was.sized in ext_get_or 0 t v (size ∙ sym long) (λ m l. was.entry m (omega arith))

-- the first i coefficients behind the constant have moved on, and s has what they add
pub record Moving (u t : List ℕ) (s i : ℕ) : Type 0 where
  pub sized : length t ≡ 9
  pub first : get_or t 0 0 ≡ get_or u 0 0
  pub done : (m : ℕ) → m < i → get_or t (suc m) 0 ≡ product (get_or u (suc m) 0) (power (8 * suc m))
  pub kept : (m : ℕ) → i ≤ m → get_or t (suc m) 0 ≡ get_or u (suc m) 0
  pub left : (k : ℕ) → k < 8 → sum (sum (get_or u 0 0) (byte_at s k)) (product (expo (power (k + 1)) (suc i)) (eval (drop (suc i) u) (power (k + 1)))) ≡ eval u (power (k + 1))

pub moving_start : (u : List ℕ) → length u ≡ 9 → Moving u u 0 0
moving_start u long =
    record {
      sized = long;
      first = refl;
      done = λ m h. absurd (not-suc-le-zero h);
      kept = λ m h. refl;
      left = λ k h.
          let x : ℕ = power (k + 1) in
          ap₂ (λ (a b : ℕ). sum a (product b (eval (drop 1 u) x)))
          (ap (sum (get_or u 0 0)) (byte_zero k) ∙ sum_zero (get_or u 0 0))
          (expo-suc x 0 ∙ ap (product x) (expo_zero x) ∙ one_product x (power-byte (k + 1)))
          ∙ sym (eval-drop u 0 x (omega arith));
    }

-- the next coefficient is a byte
pub moving_byte : {u t : List ℕ} {s i : ℕ} → Moving u t s i → ((m : ℕ) → get_or u m 0 < 256) → get_or t (i + 1) 0 < 256
moving_byte {u} {t} {s} {i} was fit = rw (add-one i) (rw (was.kept i (le_refl i)) (fit (suc i)))

-- byte 7 of a word, as it is taken out
pub seventh : (w : ℕ) → w / 2 ^ 56 % 256 ≡ byte_at w 7
unfolding byte_at
seventh w = refl

-- coefficients times powers are bytes
pub stretched_byte : {a : ℕ} {v t : List ℕ} → Stretched a v t → (m : ℕ) → get_or t m 0 < 256
stretched_byte {a} {v} s m = rw (s.entry m) (product-byte (get_or v m 0) (power (a * m)))

step : (a s c x y f : ℕ) → sum (sum a (sum s (product c x))) (product (product y x) f) ≡ sum (sum a s) (product x (sum c (product y f)))
step a s c x y f = simp ring

module _ {u t : List ℕ} {s i : ℕ} (was : Moving u t s i) (long : length u ≡ 9) (more : i < 8) (w : ℕ)
    (products : (k : ℕ) → k < 8 → byte_at w k ≡ product (get_or u (suc i) 0) (power (suc i * (k + 1)))) where
  moving_next : (v : ℕ) → v ≡ byte_at w 7 → Moving u (set t (suc i) v) (bit_xor s w) (suc i)
  moving_next v e =
      let size : length t ≡ 9 = was.sized in
      record {
        sized = length-set t (suc i) v ∙ size;
        first = get_or-set_other t (suc i) 0 v 0 (λ q. omega arith) ∙ was.first;
        done = λ m h. ⊎_elim
            (λ (q : m ≡ i). rw q (get_or-set_same t (suc i) v 0 (omega arith) ∙ e ∙ products 7 (omega arith) ∙ ap (λ (j : ℕ). product (get_or u (suc i) 0) (power j)) (mul_comm (suc i) 8)))
            (λ (q : m < i). get_or-set_other t (suc i) (suc m) v 0 (λ z. omega arith) ∙ was.done m q)
            (below_suc h);
        kept = λ m h. get_or-set_other t (suc i) (suc m) v 0 (λ z. omega arith) ∙ was.kept m (omega arith);
        left = λ k h.
            let x : ℕ = power (k + 1) in
            let p : ℕ = expo x (suc i) in
            let c : ℕ = get_or u (suc i) 0 in
            let f : ℕ = eval (drop (suc (suc i)) u) x in
            let q : power (suc i * (k + 1)) ≡ p = ap power (mul_comm (suc i) (k + 1)) ∙ sym (expo-power (k + 1) (suc i)) in
            ap₂ (λ (a b : ℕ). sum (sum (get_or u 0 0) a) (product b f)) (byte-sum s w k ∙ ap (sum (byte_at s k)) (products k h ∙ ap (product c) q)) (expo-suc x (suc i))
            ∙ step (get_or u 0 0) (byte_at s k) c p x f
            ∙ ap (λ (z : ℕ). sum (sum (get_or u 0 0) (byte_at s k)) (product p z)) (sym (eval-drop u (suc i) x (omega arith)))
            ∙ was.left k h;
      }

-- as the code has it
pub moving_more : {u t : List ℕ} {s i : ℕ} → Moving u t s i → length u ≡ 9 → i < 8 → (w : ℕ)
    → ((k : ℕ) → k < 8 → byte_at w k ≡ product (get_or t (i + 1) 0) (power ((i + 1) * (k + 1)))) → (v : ℕ) → v ≡ byte_at w 7
    → Moving u (set t (i + 1) v) (bit_xor s w) (i + 1)
moving_more {u} {t} {s} {i} was long more w products v e =
    rw (add-one i)
    (moving_next was long more w
    (λ k h. products k h ∙ rw (add-one i) (ap (λ (c : ℕ). product c (power (suc i * (k + 1)))) (was.kept i (le_refl i))))
    v e)

pub moving_end : {u t : List ℕ} {s i top : ℕ} → Moving u t s i → top ≤ i → Short top u → Moved u s t
moving_end {u} {t} {s} {i} {top} was h short =
    record {
      sized = was.sized;
      values = λ k b.
          let x : ℕ = power (k + 1) in
          sym (ap (sum (sum (get_or u 0 0) (byte_at s k)))
          (ap (product (expo x (suc i))) (eval-above u (suc i) x (λ m l. short.above m (omega arith))) ∙ product_zero (expo x (suc i)))
          ∙ sum_zero (sum (get_or u 0 0) (byte_at s k)))
          ∙ was.left k b;
      first = was.first;
      next = λ m. ⊎_elim (was.done m)
          (λ (l : i ≤ m).
          let z : get_or u (suc m) 0 ≡ 0 = short.above (suc m) (omega arith) in
          was.kept m l ∙ z ∙ sym (ap (λ (c : ℕ). product c (power (8 * suc m))) z ∙ zero_product (power (8 * suc m))))
          (cases_lt m i);
    }

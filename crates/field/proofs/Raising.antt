-- Powers of any element (document 01, section 3): exponents add, and the power 254 is one over the element, since the power 255 is 1.
-- Assumes nothing.
use mathlib.Core.Path.{◌≡◌, refl, sym, ap, ap₂, ◌∙◌}
use mathlib.Core.Logic.{◌≢◌}
use Prim.Native.Nat.{ℕ, zero, suc, ◌+◌, ◌*◌, ◌<◌}
use native.Mathlib.Nat.{zero-add, suc-add, zero-mul, suc-mul}
use Rattle.field.specs.declared.Sixteen.{Sixteen}
use Rattle.field.specs.Field.{product, power, expo, Inverse}
use Rattle.field.specs.Words.{entry, InWords, Products, Inverses}
use Rattle.field.proofs.Laws.{product_assoc, product_comm, product_one, zero_product, expo-byte, expo-power, power_zero, power_period, is_power}
use Rattle.field.proofs.InWords.{entry_small}

pub expo_zero : (x : ℕ) → expo x 0 ≡ 1
unfolding expo
expo_zero x = refl

pub expo-suc : (x j : ℕ) → expo x (suc j) ≡ product x (expo x j)
unfolding expo
expo-suc x j = refl

pub expo-add : (x m n : ℕ) → expo x (m + n) ≡ product (expo x m) (expo x n)
expo-add x zero n =
    ap (expo x) (zero-add n) ∙ sym (product_one (expo x n) (expo-byte x n)) ∙ ap (λ (z : ℕ). product z (expo x n)) (sym (expo_zero x))
expo-add x (suc m) n =
    ap (expo x) (suc-add m n) ∙ expo-suc x (m + n) ∙ ap (product x) (expo-add x m n) ∙ sym (product_assoc x (expo x m) (expo x n))
    ∙ ap (λ (z : ℕ). product z (expo x n)) (sym (expo-suc x m))

pub one_product : (a : ℕ) → a < 256 → product a 1 ≡ a
one_product a h = product_comm a 1 ∙ product_one a h

pub expo_one : (x : ℕ) → x < 256 → expo x 1 ≡ x
expo_one x h = expo-suc x 0 ∙ ap (product x) (expo_zero x) ∙ one_product x h

-- ---- one over an element

rounds : (i : ℕ) → power (i * 255) ≡ 1
rounds zero = ap power (zero-mul 255) ∙ power_zero
rounds (suc i) = ap power (suc-mul i 255) ∙ power_period (i * 255) ∙ rounds i

pub expo_round : (x : ℕ) → x < 256 → x ≢ zero → expo x 255 ≡ 1
expo_round x h n =
    let q : (i : ℕ) × (i < 255) × (power i ≡ x) = is_power x h n in
    ap (λ (z : ℕ). expo z 255) (sym q.2) ∙ expo-power q.0 255 ∙ rounds q.0

pub inverse_expo : (x r : ℕ) → x < 256 → r ≡ expo x 254 → Inverse x r
inverse_expo x r h e =
    record {
      byte = rw e (expo-byte x 254);
      of_zero = λ z. e ∙ ap (λ (y : ℕ). expo y 254) z ∙ expo-suc 0 253 ∙ zero_product (expo 0 253);
      of_other = λ n. ap (product x) e ∙ sym (expo-suc x 254) ∙ expo_round x h n;
    }

-- ---- sixteen at once

-- each entry of r is that of a to the n
pub record Raised (a : Sixteen) (n : ℕ) (r : Sixteen) : Type 0 where
  pub entry : (k : ℕ) → k < 16 → entry r k ≡ expo (entry a k) n

pub raised_once : (a : Sixteen) → Raised a 1 a
raised_once a = record { entry = λ k h. sym (expo_one (entry a k) (entry_small a k)) }

pub raised_more : {a x y r : Sixteen} (m n : ℕ) → Products x y r → Raised a m x → Raised a n y → Raised a (m + n) r
raised_more {a} m n p s t =
    record { entry = λ k h. p.entry k h ∙ ap₂ product (s.entry k h) (t.entry k h) ∙ sym (expo-add (entry a k) m n) }

pub raised_inverse : {a r : Sixteen} → InWords r → Raised a 254 r → Inverses a r
raised_inverse {a} {r} fit s = record { words = fit; entry = λ k h. inverse_expo (entry a k) (entry r k) (entry_small a k) (s.entry k h) }

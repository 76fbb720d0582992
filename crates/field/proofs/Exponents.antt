-- Powers of α, which is 2 (document 01, section 3): each is the double of the one before, exponents add, and the 255th is 1 again.
-- Assumes nothing.
use mathlib.Core.Path.{◌≡◌, refl, sym, ap, ◌∙◌}
use Prim.Native.Nat.{ℕ, zero, suc, ◌+◌, ◌*◌, ◌<◌}
use native.Mathlib.Nat.{zero-add, suc-add, add_comm, mul-zero, mul-suc}
use lib.Dec.{lit<}
use Rattle.ground.specs.Bits.{sum}
use Rattle.field.specs.Field.{carryless, reduce, product, expo, power}
use Rattle.field.proofs.Horner.{double}
use Rattle.field.proofs.Product.{product-byte, product_one, product_double, product-two}

pub expo-byte : (x j : ℕ) → expo x j < 256
unfolding expo
expo-byte x zero = lit< tt
expo-byte x (suc j) = product-byte x (expo x j)

pub power-byte : (i : ℕ) → power i < 256
power-byte i = expo-byte 2 i

pub power_zero : power zero ≡ 1
unfolding expo
power_zero = refl

pub power-suc : (i : ℕ) → power (suc i) ≡ double (power i)
unfolding expo
power-suc i = product-two (power i) (power-byte i)

pub product-power : (i j : ℕ) → product (power i) (power j) ≡ power (i + j)
product-power zero j =
    ap (λ (x : ℕ). product x (power j)) power_zero ∙ product_one (power j) (power-byte j) ∙ ap power (sym (zero-add j))
product-power (suc i) j =
    ap (λ (x : ℕ). product x (power j)) (power-suc i)
    ∙ product_double (power i) (power j) (power-byte i)
    ∙ ap double (product-power i j)
    ∙ sym (power-suc (i + j))
    ∙ ap power (sym (suc-add i j))

pub expo-power : (i j : ℕ) → expo (power i) j ≡ power (i * j)
unfolding expo
expo-power i zero = ap power (sym (mul-zero i))
expo-power i (suc j) =
    ap (product (power i)) (expo-power i j) ∙ product-power i (i * j) ∙ ap power (add_comm i (i * j) ∙ sym (mul-suc i j))

pub power_round : power 255 ≡ 1
unfolding expo product carryless reduce sum
power_round = refl

pub power_period : (i : ℕ) → power (i + 255) ≡ power i
power_period i =
    ap power (add_comm i 255)
    ∙ sym (product-power 255 i)
    ∙ ap (λ (x : ℕ). product x (power i)) power_round
    ∙ product_one (power i) (power-byte i)

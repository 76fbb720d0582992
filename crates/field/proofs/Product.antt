-- The product of two bytes (document 01, section 3): a byte, linear in each factor; and what 0, 1 and x give as a factor.
-- Assumes nothing.
use mathlib.Core.Path.{◌≡◌, sym, ap, ap₂, ◌∙◌}
use Prim.Native.Nat.{ℕ, zero, ◌%◌, ◌<◌}
use native.Mathlib.Nat.{mod-lt, mod-mod, mod-eq_of_lt, zero-lt-suc}
use lib.Dec.{lit<}
use Rattle.ground.specs.Bits.{sum}
use Rattle.ground.proofs.Sums.{sum_self, sum_zero, zero_sum, sum-mod, sum_lt}
use Rattle.field.specs.Field.{product}
use Rattle.field.proofs.Horner.{double, horner, double_byte, horner_byte, horner_zero, horner_sum-left, horner_sum-right, horner_double}
use Rattle.field.proofs.Bridge.{product_horner}

pub byte-mod : (b : ℕ) → b % 256 < 256
byte-mod b = mod-lt b (zero-lt-suc 255)

pub sum-byte : (a b : ℕ) → a < 256 → b < 256 → sum a b < 256
sum-byte a b ha hb = sum_lt 8 a b ha hb

pub product-byte : (a b : ℕ) → product a b < 256
product-byte a b = rw (product_horner a b) (horner_byte 8 (a % 256) (b % 256) (byte-mod b))

-- only the low bytes count
pub product-low : (a b : ℕ) → product a b ≡ product (a % 256) (b % 256)
unfolding product
product-low a b = sym (rw (mod-mod a 256, mod-mod b 256))

pub product-sum-left : (a c b : ℕ) → product (sum a c) b ≡ sum (product a b) (product c b)
product-sum-left a c b =
    product_horner (sum a c) b
    ∙ ap (λ (x : ℕ). horner 8 x (b % 256)) (sum-mod a c 8)
    ∙ horner_sum-left 8 (a % 256) (c % 256) (b % 256)
    ∙ sym (ap₂ sum (product_horner a b) (product_horner c b))

pub product-sum-right : (a b c : ℕ) → product a (sum b c) ≡ sum (product a b) (product a c)
product-sum-right a b c =
    product_horner a (sum b c)
    ∙ ap (horner 8 (a % 256)) (sum-mod b c 8)
    ∙ horner_sum-right 8 (a % 256) (b % 256) (c % 256)
    ∙ sym (ap₂ sum (product_horner a b) (product_horner a c))

pub zero_product : (b : ℕ) → product zero b ≡ zero
zero_product b = product_horner zero b ∙ horner_zero 8 (b % 256)

pub product_zero : (a : ℕ) → product a zero ≡ zero
product_zero a = ap (product a) (sym (zero_sum zero)) ∙ product-sum-right a zero zero ∙ sum_self (product a zero)

pub product_one : (b : ℕ) → b < 256 → product 1 b ≡ b
unfolding horner double sum
product_one b h = product_horner 1 b ∙ sum_zero (b % 256) ∙ mod-eq_of_lt h

pub product_double : (a b : ℕ) → a < 256 → product (double a) b ≡ double (product a b)
product_double a b h =
    product_horner (double a) b
    ∙ ap (λ (x : ℕ). horner 8 x (b % 256)) (mod-eq_of_lt (double_byte a h))
    ∙ horner_double a (b % 256) h (byte-mod b)
    ∙ ap (λ (x : ℕ). double (horner 8 x (b % 256))) (sym (mod-eq_of_lt h))
    ∙ ap double (sym (product_horner a b))

-- x is 2
pub product-two : (b : ℕ) → b < 256 → product 2 b ≡ double b
unfolding double sum
product-two b h = product_double 1 b (lit< tt) ∙ ap double (product_one b h)

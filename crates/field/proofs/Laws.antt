-- The laws of GF(256) that the layers above cite (document 01, section 3): the bytes are a field, and each but 0 is a power of α.
-- The laws of the sum are in the crate ground. Assumes nothing.
use mathlib.Core.Path.{◌≡◌, refl, sym, ap, ap₂, ◌∙◌}
use mathlib.Core.Logic.{◌⊎◌, inl, inr, ⊎_elim, ◌≢◌}
use mathlib.Core.Bool.{Bool, true, false}
use Prim.Native.Nat.{ℕ, zero, suc, ◌+◌, ◌-◌, ◌%◌, ◌<◌}
use native.Mathlib.Nat.{add_comm, add_assoc, mod-eq_of_lt}
use native.Mathlib.Omega.{arith}
use lib.Dec.{eqb}
use borrow.Author.Tests.{eqb-true, eqb-false}
use Rattle.ground.proofs.Sums.{sum_assoc, sum_comm, sum-left_comm}
use Rattle.field.specs.Field.{product, power}
pub use Rattle.field.proofs.Product.{byte-mod, sum-byte, product-byte, product-low, product-sum-left, product-sum-right}
pub use Rattle.field.proofs.Product.{zero_product, product_zero, product_one}
pub use Rattle.field.proofs.Exponents.{expo-byte, power-byte, power_zero, product-power, expo-power, power_round, power_period}
pub use Rattle.field.proofs.Chain.{power_injective, is_power}

-- what a byte is: zero or a power
pub data Log (x : ℕ) : Type 0 where
  nought : x % 256 ≡ zero → Log x
  raised : (i : ℕ) → i < 255 → power i ≡ x % 256 → Log x

pub log : (x : ℕ) → Log x
log x = log_of (eqb (x % 256) zero) refl
  where
    log_of : (b : Bool) → eqb (x % 256) zero ≡ b → Log x
    log_of true e = nought (eqb-true (x % 256) zero e)
    log_of false e =
        let q : (i : ℕ) × (i < 255) × (power i ≡ x % 256) = is_power (x % 256) (byte-mod x) (eqb-false (x % 256) zero e) in
        raised q.0 q.1 q.2

nought_product : (a b : ℕ) → a % 256 ≡ zero → product a b ≡ zero
nought_product a b e = product-low a b ∙ ap (λ (x : ℕ). product x (b % 256)) e ∙ zero_product (b % 256)

product_nought : (a b : ℕ) → b % 256 ≡ zero → product a b ≡ zero
product_nought a b e = product-low a b ∙ ap (product (a % 256)) e ∙ product_zero (a % 256)

raised_product : (a b i j : ℕ) → power i ≡ a % 256 → power j ≡ b % 256 → product a b ≡ power (i + j)
raised_product a b i j p q = product-low a b ∙ ap₂ product (sym p) (sym q) ∙ product-power i j

-- ---- the product is commutative and associative

comm_at : (a b : ℕ) → Log a → Log b → product a b ≡ product b a
comm_at a b (nought p) l = nought_product a b p ∙ sym (product_nought b a p)
comm_at a b (raised i h p) (nought q) = product_nought a b q ∙ sym (nought_product b a q)
comm_at a b (raised i h p) (raised j k q) = raised_product a b i j p q ∙ ap power (add_comm i j) ∙ sym (raised_product b a j i q p)

pub product_comm : (a b : ℕ) → product a b ≡ product b a
product_comm a b = comm_at a b (log a) (log b)

power-low : (i : ℕ) → power i ≡ power i % 256
power-low i = sym (mod-eq_of_lt (power-byte i))

assoc_at : (a b c : ℕ) → Log a → Log b → Log c → product (product a b) c ≡ product a (product b c)
assoc_at a b c (nought p) l m =
    ap (λ (x : ℕ). product x c) (nought_product a b p) ∙ zero_product c ∙ sym (nought_product a (product b c) p)
assoc_at a b c (raised i h p) (nought q) m =
    ap (λ (x : ℕ). product x c) (product_nought a b q) ∙ zero_product c ∙ sym (product_zero a) ∙ ap (product a) (sym (nought_product b c q))
assoc_at a b c (raised i h p) (raised j k q) (nought r) =
    product_nought (product a b) c r ∙ sym (product_zero a) ∙ ap (product a) (sym (product_nought b c r))
assoc_at a b c (raised i h p) (raised j k q) (raised l m r) =
    ap (λ (x : ℕ). product x c) (raised_product a b i j p q)
    ∙ raised_product (power (i + j)) c (i + j) l (power-low (i + j)) r
    ∙ ap power (add_assoc i j l)
    ∙ sym (raised_product a (power (j + l)) i (j + l) p (power-low (j + l)))
    ∙ ap (product a) (sym (raised_product b c j l q r))

pub product_assoc : (a b c : ℕ) → product (product a b) c ≡ product a (product b c)
product_assoc a b c = assoc_at a b c (log a) (log b) (log c)

pub product-left_comm : (a b c : ℕ) → product a (product b c) ≡ product b (product a c)
product-left_comm a b c = sym (product_assoc a b c) ∙ ap (λ (x : ℕ). product x c) (product_comm a b) ∙ product_assoc b a c

-- brings sums of products to one order: `simp ring`
pub ruleset ring = (sum_assoc, sum_comm, sum-left_comm, product_comm, product_assoc, product-left_comm, product-sum-left, product-sum-right)

-- ---- no zero divisors, and inverses

-- the power before comes back by 254 doublings more
pub power_nonzero : (i : ℕ) → power i ≢ zero
power_nonzero zero e = let z : ◌≡◌ {A = ℕ} 1 0 = sym power_zero ∙ e in omega arith
power_nonzero (suc i) e =
    let n : i + 255 ≡ 254 + suc i = omega arith in
    power_nonzero i
    (sym (power_period i) ∙ ap power n ∙ sym (product-power 254 (suc i)) ∙ ap (product (power 254)) e ∙ product_zero (power 254))

divisor_at : (a b : ℕ) → Log a → Log b → product a b ≡ zero → (a % 256 ≡ zero) ⊎ (b % 256 ≡ zero)
divisor_at a b (nought p) l e = inl p
divisor_at a b (raised i h p) (nought q) e = inr q
divisor_at a b (raised i h p) (raised j k q) e = absurd (power_nonzero (i + j) (sym (raised_product a b i j p q) ∙ e))

pub zero_divisor : (a b : ℕ) → a < 256 → b < 256 → product a b ≡ zero → (a ≡ zero) ⊎ (b ≡ zero)
zero_divisor a b ha hb e =
    ⊎_elim (λ p. inl (sym (mod-eq_of_lt ha) ∙ p)) (λ q. inr (sym (mod-eq_of_lt hb) ∙ q)) (divisor_at a b (log a) (log b) e)

pub has_inverse : (a : ℕ) → a < 256 → a ≢ zero → (b : ℕ) × (b < 256) × (product a b ≡ 1)
has_inverse a h n =
    let q : (i : ℕ) × (i < 255) × (power i ≡ a) = is_power a h n in
    let e : q.0 + (255 - q.0) ≡ 255 = omega arith in (
      power (255 - q.0),
      power-byte (255 - q.0),
      ap (λ (x : ℕ). product x (power (255 - q.0))) (sym q.2) ∙ product-power q.0 (255 - q.0) ∙ ap power e ∙ power_round,
    )

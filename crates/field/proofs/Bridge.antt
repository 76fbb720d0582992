-- The product as document 01, section 3, has it, polynomials multiplied and then reduced by p, is the one by Horner's rule:
-- reduction is linear over the bits, and a polynomial times x, reduced, is the reduced polynomial doubled.
-- Assumes nothing.
use mathlib.Core.Path.{◌≡◌, refl, sym, ap, ap₂, ◌∙◌}
use Prim.Native.Nat.{ℕ, zero, suc, ◌+◌, ◌*◌, ◌/◌, ◌%◌, ◌^◌, ◌<◌}
use native.Mathlib.Nat.{add-suc, pow-suc, mul_assoc, mul-div-mul_right, div-eq_of_lt, mod-lt, zero-lt-suc, lt_of_lt_of_le, le-add_right}
use native.Mathlib.Omega.{arith}
use lib.Pow.{pow_mono}
use Rattle.ground.specs.Bits.{sum, keep}
use Rattle.ground.proofs.Sums.{sum_zero, sum_twice, sum_shr, swap4, keep_lt, odd_keep}
use Rattle.field.specs.Field.{p, carryless, reduce, product}
use Rattle.field.proofs.Horner.{double, double_zero, horner}

-- ---- reduction

reduce-sum : (k v w : ℕ) → reduce k (sum v w) ≡ sum (reduce k v) (reduce k w)
unfolding reduce
reduce-sum zero v w = refl
reduce-sum (suc k) v w =
    ap (reduce k)
    (ap (sum (sum v w)) (ap (λ (x : ℕ). keep (x % 2) (p * 2 ^ k)) (sum_shr v w (8 + k)) ∙ odd_keep (v / 2 ^ (8 + k)) (w / 2 ^ (8 + k)) (p * 2 ^ k))
    ∙ swap4 v w (keep (v / 2 ^ (8 + k) % 2) (p * 2 ^ k)) (keep (w / 2 ^ (8 + k) % 2) (p * 2 ^ k)))
    ∙ reduce-sum k _ _

-- a byte stays as it is
reduce-byte : (k v : ℕ) → v < 256 → reduce k v ≡ v
unfolding reduce
reduce-byte zero v h = refl
reduce-byte (suc k) v h =
    ap (λ (x : ℕ). reduce k (sum v (keep (x % 2) (p * 2 ^ k)))) (div-eq_of_lt (lt_of_lt_of_le h (pow_mono (le-add_right 8 k))))
    ∙ ap (reduce k) (sum_zero v) ∙ reduce-byte k v h

keep_twice : (n b : ℕ) → keep n (b * 2) ≡ keep n b * 2
keep_twice zero b = refl
keep_twice (suc n) b = refl

shift_up : (v k : ℕ) → v * 2 / 2 ^ (8 + suc k) ≡ v / 2 ^ (8 + k)
shift_up v k = rw (add-suc, pow-suc) (mul-div-mul_right v (2 ^ (8 + k)) (zero-lt-suc 1))

p_up : (k : ℕ) → p * 2 ^ suc k ≡ p * 2 ^ k * 2
p_up k = ap (λ (x : ℕ). p * x) (pow-suc 2 k) ∙ sym (mul_assoc p (2 ^ k) 2)

reduce_twice : (k v : ℕ) → reduce (suc k) (v * 2) ≡ double (reduce k v)
unfolding reduce double
reduce_twice zero v =
    let e : v * 2 / 256 ≡ v / 128 = omega arith in
    ap (λ (x : ℕ). sum (v * 2) (keep (x % 2) p)) e
reduce_twice (suc k) v =
    ap (reduce (suc k))
    (ap (sum (v * 2)) (ap₂ (λ (x y : ℕ). keep (x % 2) y) (shift_up v k) (p_up k) ∙ keep_twice (v / 2 ^ (8 + k) % 2) (p * 2 ^ k))
    ∙ sym (sum_twice v (keep (v / 2 ^ (8 + k) % 2) (p * 2 ^ k))))
    ∙ reduce_twice k _

-- ---- the product of two polynomials

carryless_twice : (n a b : ℕ) → carryless n a (b * 2) ≡ carryless n a b * 2
unfolding carryless
carryless_twice zero a b = refl
carryless_twice (suc n) a b =
    ap₂ sum (keep_twice (a % 2) b) (carryless_twice n (a / 2) (b * 2)) ∙ sym (sum_twice (keep (a % 2) b) (carryless n (a / 2) (b * 2)))

carryless_horner : (n a b : ℕ) → b < 256 → reduce n (carryless (suc n) a b) ≡ horner (suc n) a b
unfolding carryless horner reduce
carryless_horner zero a b h = ap (sum (keep (a % 2) b)) (sym double_zero)
carryless_horner (suc n) a b h =
    reduce-sum (suc n) (keep (a % 2) b) (carryless (suc n) (a / 2) (b * 2))
    ∙ ap₂ sum (reduce-byte (suc n) (keep (a % 2) b) (keep_lt 8 (a % 2) b h))
    (ap (reduce (suc n)) (carryless_twice (suc n) (a / 2) b) ∙ reduce_twice n (carryless (suc n) (a / 2) b) ∙ ap double (carryless_horner n (a / 2) b h))

pub product_horner : (a b : ℕ) → product a b ≡ horner 8 (a % 256) (b % 256)
unfolding product
product_horner a b = carryless_horner 7 (a % 256) (b % 256) (mod-lt b (zero-lt-suc 255))

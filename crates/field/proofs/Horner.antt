-- Doubling and Horner's rule: a second way to the product of document 01, section 3, one bit at a time, in which its laws are short.
-- Both are linear over the bits.
-- Assumes nothing.
use mathlib.Core.Path.{◌≡◌, refl, sym, ap, ap₂, ◌∙◌}
use Prim.Native.Nat.{ℕ, zero, suc, ◌*◌, ◌/◌, ◌%◌, ◌^◌, ◌<◌}
use native.Mathlib.Nat.{mul-mod_left, mul-div_cancel, pow-suc, zero-lt-suc}
use native.Mathlib.Omega.{arith}
use lib.Arith.{lt-one}
use lib.Dec.{ltb, ltb→lt, eqb, eqb→eq}
use Rattle.ground.specs.Bits.{sum, keep}
use Rattle.ground.proofs.Sums.{sum_zero, zero_sum, sum_twice, sum_shr, sum_lt, swap4, keep-sum, keep_lt, odd_keep}
use Rattle.ground.proofs.Sweep.{below}
use Rattle.field.specs.Field.{p}

-- x · a: shifted, less p where the coefficient of x^8 is then 1
unfoldable pub double : ℕ → ℕ
double a = sum (a * 2) (keep (a / 128 % 2) p)

-- a · b, by the n low bits of a
unfoldable pub horner : ℕ → ℕ → ℕ → ℕ
horner zero a b = zero
horner (suc n) a b = sum (keep (a % 2) b) (double (horner n (a / 2) b))

-- ---- doubling

pub double_sum : (a b : ℕ) → double (sum a b) ≡ sum (double a) (double b)
unfolding double
double_sum a b =
    ap₂ sum (sum_twice a b) (ap (λ (x : ℕ). keep (x % 2) p) (sum_shr a b 7) ∙ odd_keep (a / 128) (b / 128) p)
    ∙ swap4 (a * 2) (b * 2) (keep (a / 128 % 2) p) (keep (b / 128 % 2) p)

pub double_zero : double zero ≡ zero
unfolding double sum
double_zero = refl

pub double_byte : (a : ℕ) → a < 256 → double a < 256
unfolding double sum
double_byte a h = ltb→lt (double a) 256 (below (λ (k : ℕ). ltb (double k) 256) 256 tt a h)

-- ---- Horner's rule

pub horner_byte : (n a b : ℕ) → b < 256 → horner n a b < 256
unfolding horner
horner_byte zero a b h = zero-lt-suc 255
horner_byte (suc n) a b h = sum_lt 8 _ _ (keep_lt 8 (a % 2) b h) (double_byte _ (horner_byte n (a / 2) b h))

pub horner_sum-right : (n a b c : ℕ) → horner n a (sum b c) ≡ sum (horner n a b) (horner n a c)
unfolding horner
horner_sum-right zero a b c = sym (zero_sum zero)
horner_sum-right (suc n) a b c =
    ap₂ sum (keep-sum (a % 2) b c)
    (ap double (horner_sum-right n (a / 2) b c) ∙ double_sum (horner n (a / 2) b) (horner n (a / 2) c))
    ∙ swap4 (keep (a % 2) b) (keep (a % 2) c) (double (horner n (a / 2) b)) (double (horner n (a / 2) c))

pub horner_sum-left : (n a c b : ℕ) → horner n (sum a c) b ≡ sum (horner n a b) (horner n c b)
unfolding horner
horner_sum-left zero a c b = sym (zero_sum zero)
horner_sum-left (suc n) a c b =
    ap₂ sum (odd_keep a c b)
    (ap (λ (x : ℕ). double (horner n x b)) (sum_shr a c 1) ∙ ap double (horner_sum-left n (a / 2) (c / 2) b)
    ∙ double_sum (horner n (a / 2) b) (horner n (c / 2) b))
    ∙ swap4 (keep (a % 2) b) (keep (c % 2) b) (double (horner n (a / 2) b)) (double (horner n (c / 2) b))

pub horner_zero : (n b : ℕ) → horner n zero b ≡ zero
unfolding horner double sum
horner_zero zero b = refl
horner_zero (suc n) b = ap double (horner_zero n b)

half_lt_pow : (a k : ℕ) → a < 2 ^ suc k → a / 2 < 2 ^ k
half_lt_pow a k h = let e : 2 ^ suc k ≡ 2 ^ k * 2 = pow-suc 2 k in omega arith

-- one bit more, where the factor has no such bit
horner_more : (n a b : ℕ) → a < 2 ^ n → horner (suc n) a b ≡ horner n a b
unfolding horner
horner_more zero a b h = ap (λ (x : ℕ). sum (keep (x % 2) b) (double zero)) (lt-one h) ∙ zero_sum (double zero) ∙ double_zero
horner_more (suc n) a b h = ap (λ (x : ℕ). sum (keep (a % 2) b) (double x)) (horner_more n (a / 2) b (half_lt_pow a n h))

horner_twice : (n a b : ℕ) → horner (suc n) (a * 2) b ≡ double (horner n a b)
unfolding horner
horner_twice n a b =
    ap₂ (λ (x y : ℕ). sum (keep x b) (double (horner n y b))) (mul-mod_left a 2) (mul-div_cancel a (zero-lt-suc 1))
    ∙ zero_sum (double (horner n a b))

-- p itself counts as nothing
horner_p : (b : ℕ) → b < 256 → horner 9 p b ≡ zero
unfolding horner double sum
horner_p b h = eqb→eq (horner 9 p b) zero (below (λ (k : ℕ). eqb (horner 9 p k) zero) 256 tt b h)

horner_keep-p : (e b : ℕ) → b < 256 → horner 9 (keep e p) b ≡ zero
horner_keep-p zero b h = horner_zero 9 b
horner_keep-p (suc e) b h = horner_p b h

double_is : (a : ℕ) → double a ≡ sum (a * 2) (keep (a / 128 % 2) p)
unfolding double
double_is a = refl

pub horner_double : (a b : ℕ) → a < 256 → b < 256 → horner 8 (double a) b ≡ double (horner 8 a b)
horner_double a b ha hb =
    sym (horner_more 8 (double a) b (double_byte a ha))
    ∙ ap (λ (x : ℕ). horner 9 x b) (double_is a)
    ∙ horner_sum-left 9 (a * 2) (keep (a / 128 % 2) p) b
    ∙ ap₂ sum (horner_twice 8 a b) (horner_keep-p (a / 128 % 2) b hb)
    ∙ sum_zero (double (horner 8 a b))

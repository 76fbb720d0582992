-- The bytes of a word: of sums, of what two words have in common, and of products with a small factor, where no byte carries into the next; and the sixteen bytes of two.
-- Assumes nothing.
use mathlib.Core.Path.{◌≡◌, refl, sym, ap, ap₂, subst, ◌∙◌}
use mathlib.Core.Bool.{Bool, true, false, cond}
use Prim.Native.Nat.{ℕ, zero, suc, ◌+◌, ◌-◌, ◌*◌, ◌/◌, ◌%◌, ◌^◌, ◌<◌, ◌≤◌, suc-le-suc}
use native.Mathlib.Nat.{add_comm, zero-mul, one-mul, suc-mul, mul_assoc, mul_comm, add-mul, zero-div, div-one, mod-lt, zero-lt-suc, not-suc-le-zero, le_of_suc-le-suc, mul-add-mod_self_right, mod-eq_of_lt, div-add-mod'}
use native.Mathlib.Omega.{arith}
use lib.Bits.{bit_xor, bit_and, and_shr, and_mod, and_mask, and_comm, and_zero_l, xor_shr, xor_mod}
use lib.Dec.{ltb, eqb, eqb→eq}
use lib.Arith.{lt-one}
use lib.Pow.{shr_lt, shr-shr, field, mod-mod-pow}
use borrow.Author.Tests.{lt-ltb, le-ltb}
use Rattle.ground.specs.Bits.{sum, keep}
use Rattle.ground.proofs.Numbers.{push_digit}
use Rattle.ground.proofs.Sweep.{below}
use Rattle.words.specs.Words.{byte_at}
use Rattle.field.specs.declared.Sixteen.{Sixteen}
use Rattle.field.specs.Words.{entry, InWords}

pub byte_small : (w k : ℕ) → byte_at w k < 256
unfolding byte_at
byte_small w k = mod-lt (w / 2 ^ (k * 8)) (zero-lt-suc 255)

pub byte_zero : (k : ℕ) → byte_at 0 k ≡ 0
unfolding byte_at
byte_zero k = ap (λ (z : ℕ). z % 256) (zero-div (2 ^ (k * 8)))

pub byte-sum : (a b k : ℕ) → byte_at (bit_xor a b) k ≡ sum (byte_at a k) (byte_at b k)
unfolding byte_at sum
byte-sum a b k = ap (λ (z : ℕ). z % 256) (xor_shr a b (k * 8)) ∙ xor_mod (a / 2 ^ (k * 8)) (b / 2 ^ (k * 8)) 8

pub byte_and : (a b k : ℕ) → byte_at (bit_and a b) k ≡ bit_and (byte_at a k) (byte_at b k)
unfolding byte_at
byte_and a b k = ap (λ (z : ℕ). z % 256) (and_shr a b (k * 8)) ∙ and_mod (a / 2 ^ (k * 8)) (b / 2 ^ (k * 8)) 8

-- a byte alone in its word
pub byte-alone : (b : ℕ) → b < 256 → byte_at b 0 ≡ b
unfolding byte_at
byte-alone b h = ap (λ (z : ℕ). z % 256) (div-one b) ∙ mod-eq_of_lt h

-- what a word has no room for is behind its eight bytes
pub byte_in_word : (x k : ℕ) → k < 8 → byte_at (x % 2 ^ 64) k ≡ byte_at x k
unfolding byte_at
byte_in_word x k h =
    let e : 56 - k * 8 + 8 + k * 8 ≡ 64 = omega arith in
    ap (λ (n : ℕ). x % 2 ^ n / 2 ^ (k * 8) % 256) (sym e)
    ∙ ap (λ (z : ℕ). z % 256) (field x (56 - k * 8 + 8) (k * 8))
    ∙ mod-mod-pow (x / 2 ^ (k * 8)) (56 - k * 8) 8

-- ---- one byte after the other

byte-first : (x b : ℕ) → b < 256 → byte_at (x * 256 + b) 0 ≡ b
unfolding byte_at
byte-first x b h = ap (λ (z : ℕ). z % 256) (div-one (x * 256 + b)) ∙ mul-add-mod_self_right x 256 b ∙ mod-eq_of_lt h

byte_next : (x b k : ℕ) → b < 256 → byte_at (x * 256 + b) (suc k) ≡ byte_at x k
unfolding byte_at
byte_next x b k h = ap (λ (z : ℕ). z % 256) (push_digit k x b h)

low_small : (w : ℕ) → w % 256 < 256
low_small w = mod-lt w (zero-lt-suc 255)

byte_low : (w : ℕ) → byte_at w 0 ≡ w % 256
unfolding byte_at
byte_low w = ap (λ (z : ℕ). z % 256) (div-one w)

byte_up : (w k : ℕ) → byte_at w (suc k) ≡ byte_at (w / 256) k
byte_up w k = ap (λ (z : ℕ). byte_at z (suc k)) (sym (div-add-mod' w 256)) ∙ byte_next (w / 256) (w % 256) k (low_small w)

same_from : (n v w : ℕ) → v < 2 ^ (n * 8) → w < 2 ^ (n * 8) → ((k : ℕ) → k < n → byte_at v k ≡ byte_at w k) → v ≡ w
same_from zero v w hv hw same = lt-one hv ∙ sym (lt-one hw)
same_from (suc n) v w hv hw same =
    sym (div-add-mod' v 256)
    ∙ ap₂ (λ (y z : ℕ). y * 256 + z)
    (same_from n (v / 256) (w / 256) (shr_lt (n * 8) 8 (rw (suc-mul n 8) at hv)) (shr_lt (n * 8) 8 (rw (suc-mul n 8) at hw))
    (λ k h. sym (byte_up v k) ∙ same (suc k) (suc-le-suc h) ∙ byte_up w k))
    (sym (byte_low v) ∙ same 0 (zero-lt-suc n) ∙ byte_low w)
    ∙ div-add-mod' w 256

-- a word is its eight bytes
pub same_bytes : (v w : ℕ) → v < 2 ^ 64 → w < 2 ^ 64 → ((k : ℕ) → k < 8 → byte_at v k ≡ byte_at w k) → v ≡ w
same_bytes v w hv hw same = same_from 8 v w hv hw same

-- a word times c, where each byte times c is a byte
module _ (c : ℕ) where
  spread : (w : ℕ) → w * c ≡ w / 256 * c * 256 + w % 256 * c
  spread w =
      ap (λ (z : ℕ). z * c) (sym (div-add-mod' w 256))
      ∙ add-mul (w / 256 * 256) (w % 256) c
      ∙ ap (λ (z : ℕ). z + w % 256 * c) (mul_assoc (w / 256) 256 c ∙ ap (λ (z : ℕ). w / 256 * z) (mul_comm 256 c) ∙ sym (mul_assoc (w / 256) c 256))

  first_small : (w : ℕ) → byte_at w 0 * c < 256 → w % 256 * c < 256
  first_small w h = subst (λ (z : ℕ). z * c < 256) (byte_low w) h

  pub scaled : (n w : ℕ) → ((j : ℕ) → j < n → byte_at w j * c < 256) → (k : ℕ) → k < n → byte_at (w * c) k ≡ byte_at w k * c
  scaled zero w small k l = absurd (not-suc-le-zero l)
  scaled (suc n) w small zero l =
      ap (λ (z : ℕ). byte_at z 0) (spread w)
      ∙ byte-first (w / 256 * c) (w % 256 * c) (first_small w (small 0 (zero-lt-suc n)))
      ∙ ap (λ (z : ℕ). z * c) (sym (byte_low w))
  scaled (suc n) w small (suc k) l =
      ap (λ (z : ℕ). byte_at z (suc k)) (spread w)
      ∙ byte_next (w / 256 * c) (w % 256 * c) k (first_small w (small 0 (zero-lt-suc n)))
      ∙ scaled n (w / 256) (λ j m. subst (λ (z : ℕ). z * c < 256) (byte_up w j) (small (suc j) (suc-le-suc m))) k (le_of_suc-le-suc l)
      ∙ ap (λ (z : ℕ). z * c) (sym (byte_up w k))

-- ---- the same byte eight times

one_each : (k : ℕ) → k < 8 → byte_at 0x0101010101010101 k ≡ 1
unfolding byte_at
one_each k h = eqb→eq (byte_at 0x0101010101010101 k) 1 (below (λ (j : ℕ). eqb (byte_at 0x0101010101010101 j) 1) 8 tt k h)

pub each_byte : (y k : ℕ) → y < 256 → k < 8 → byte_at (y * 0x0101010101010101) k ≡ y
each_byte y k h l =
    ap (λ (z : ℕ). byte_at z k) (mul_comm y 0x0101010101010101)
    ∙ scaled y 8 0x0101010101010101 (λ j m. rw (one_each j m, one-mul y) h) k l
    ∙ ap (λ (z : ℕ). z * y) (one_each k l)
    ∙ one-mul y

-- ---- one bit of each byte

bit_of_byte : (x i : ℕ) → i < 8 → x % 256 / 2 ^ i % 2 ≡ x / 2 ^ i % 2
bit_of_byte x i h =
    let e : 7 - i + 1 + i ≡ 8 = omega arith in
    ap (λ (n : ℕ). x % 2 ^ n / 2 ^ i % 2) (sym e) ∙ ap (λ (z : ℕ). z % 2) (field x (7 - i + 1) i) ∙ mod-mod-pow (x / 2 ^ i) (7 - i) 1

shift_swap : (b i j : ℕ) → b / 2 ^ i / 2 ^ j ≡ b / 2 ^ j / 2 ^ i
shift_swap b i j = shr-shr b i j ∙ ap (λ (n : ℕ). b / 2 ^ n) (add_comm i j) ∙ sym (shr-shr b j i)

pub bit_at : (b i k : ℕ) → i < 8 → k < 8 → byte_at (bit_and (b / 2 ^ i) 0x0101010101010101) k ≡ byte_at b k / 2 ^ i % 2
unfolding byte_at
bit_at b i k hi hk =
    byte_and (b / 2 ^ i) 0x0101010101010101 k
    ∙ ap (bit_and (byte_at (b / 2 ^ i) k)) (one_each k hk)
    ∙ and_mask (byte_at (b / 2 ^ i) k) 1
    ∙ mod-mod-pow (b / 2 ^ i / 2 ^ (k * 8)) 7 1
    ∙ ap (λ (z : ℕ). z % 2) (shift_swap b i (k * 8))
    ∙ sym (bit_of_byte (b / 2 ^ (k * 8)) i hi)

bit-times : (e c : ℕ) → e < 2 → c < 256 → e * c < 256
bit-times zero c h l = rw (zero-mul c) (zero-lt-suc 255)
bit-times (suc zero) c h l = rw (one-mul c) l
bit-times (suc (suc e)) c h l = absurd (omega arith)

-- and times a constant
pub bits-times : (c b i k : ℕ) → c < 256 → i < 8 → k < 8 → byte_at (bit_and (b / 2 ^ i) 0x0101010101010101 * c) k ≡ byte_at b k / 2 ^ i % 2 * c
bits-times c b i k hc hi hk =
    scaled c 8 (bit_and (b / 2 ^ i) 0x0101010101010101)
    (λ j m. rw (bit_at b i j hi m) (bit-times (byte_at b j / 2 ^ i % 2) c (mod-lt (byte_at b j / 2 ^ i) (zero-lt-suc 1)) hc)) k hk
    ∙ ap (λ (z : ℕ). z * c) (bit_at b i k hi hk)

-- ---- a number of n bits, or nothing of it, by a bit

pub masked : (n c a : ℕ) → c < 2 → a < 2 ^ n → bit_and (c * (2 ^ n - 1)) a ≡ keep c a
masked n zero a h l = ap (λ (z : ℕ). bit_and z a) (zero-mul (2 ^ n - 1)) ∙ and_zero_l a
masked n (suc zero) a h l = ap (λ (z : ℕ). bit_and z a) (one-mul (2 ^ n - 1)) ∙ and_comm (2 ^ n - 1) a ∙ and_mask a n ∙ mod-eq_of_lt l
masked n (suc (suc c)) a h l = absurd (omega arith)

pub byte-keep : (c a k : ℕ) → byte_at (keep c a) k ≡ keep c (byte_at a k)
byte-keep zero a k = byte_zero k
byte-keep (suc c) a k = refl

-- ---- sixteen in two words

pub entry-low : (x : Sixteen) (k : ℕ) → k < 8 → entry x k ≡ byte_at x.low k
unfolding entry
entry-low x k h = rw (lt-ltb k 8 h)

pub entry-high : (x : Sixteen) (k : ℕ) → 8 ≤ k → entry x k ≡ byte_at x.high (k - 8)
unfolding entry
entry-high x k h = rw (le-ltb k 8 h)

pub entry_small : (x : Sixteen) (k : ℕ) → entry x k < 256
unfolding entry
entry_small x k = choose (ltb k 8)
  where
    choose : (t : Bool) → cond t (byte_at x.low k) (byte_at x.high (k - 8)) < 256
    choose true = byte_small x.low k
    choose false = byte_small x.high (k - 8)

-- two words are their sixteen entries
pub same_entries : (x y : Sixteen) → InWords x → InWords y → ((k : ℕ) → k < 16 → entry x k ≡ entry y k) → x ≡ y
same_entries x y hx hy same =
    let low : x.low ≡ y.low =
    same_bytes x.low y.low hx.low hy.low (λ k h. sym (entry-low x k h) ∙ same k (omega arith) ∙ entry-low y k h) in
    let high : x.high ≡ y.high = same_bytes x.high y.high hx.high hy.high (λ k h. upper k h) in
    λ i. record { low = low i; high = high i }
  where
    upper : (k : ℕ) → k < 8 → byte_at x.high k ≡ byte_at y.high k
    upper k h =
        let e : k + 8 - 8 ≡ k = omega arith in
        ap (byte_at x.high) (sym e)
        ∙ sym (entry-high x (k + 8) (omega arith))
        ∙ same (k + 8) (omega arith)
        ∙ entry-high y (k + 8) (omega arith)
        ∙ ap (byte_at y.high) e

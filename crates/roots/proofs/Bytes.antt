-- The bytes of a word: the products of a byte from those of its half bytes, and a test that sees a byte of 0.
-- Assumes nothing.
use mathlib.Core.Path.{◌≡◌, refl, sym, ap, ap₂, ◌∙◌}
use mathlib.Core.List.{List}
use Prim.Native.Nat.{ℕ, zero, suc, ◌+◌, ◌*◌, ◌/◌, ◌%◌, ◌^◌, ◌<◌, ◌≤◌}
use native.Mathlib.Omega.{arith}
use lib.ListN.{get_or}
use lib.Bits.{bit_xor, bit_and, bit_or, and_mod, or_shr, or_mod, and_le_r, xor_shifted}
use Rattle.ground.specs.Bits.{sum}
use Rattle.ground.proofs.Sums.{sum_comm, sum_self}
use Rattle.field.specs.Field.{product, power}
use Rattle.field.proofs.Laws.{product-sum-left}
use Rattle.field.proofs.InWords.{byte-sum, byte_and, each_byte}
use Rattle.words.specs.Words.{byte_at}
use Rattle.roots.specs.InnerWords.{Words}

halves : (x : ℕ) → sum (x % 16) (x / 16 * 16) ≡ x
unfolding sum
halves x = let e : x / 16 * 16 + x % 16 ≡ x = omega arith in sum_comm (x % 16) (x / 16 * 16) ∙ xor_shifted (x / 16) 4 (x % 16) (omega arith) ∙ e

pub looked : (t : List ℕ) (i x k : ℕ) → Words (i + 1) t → x < 256 → k < 8
    → byte_at (bit_xor (get_or t (32 * i + x % 16) 0) (get_or t (32 * i + 16 + x / 16) 0)) k ≡ product x (power ((i + 1) * (k + 1)))
looked t i x k words hx hk =
    let p : ℕ = power ((i + 1) * (k + 1)) in
    let hi : i < i + 1 = omega arith in
    byte-sum (get_or t (32 * i + x % 16) 0) (get_or t (32 * i + 16 + x / 16) 0) k
    ∙ ap₂ sum (words.low i (x % 16) k hi (omega arith) hk) (words.high i (x / 16) k hi (omega arith) hk)
    ∙ sym (product-sum-left (x % 16) (x / 16 * 16) p)
    ∙ ap (λ (y : ℕ). product y p) (halves x)

-- ---- a byte that is 0

byte_or : (a b k : ℕ) → byte_at (bit_or a b) k ≡ bit_or (byte_at a k) (byte_at b k)
unfolding byte_at
byte_or a b k = ap (λ (z : ℕ). z % 256) (or_shr a b (k * 8)) ∙ or_mod (a / 2 ^ (k * 8)) (b / 2 ^ (k * 8)) 8

-- where a byte of a is 0, and no lower byte passes 127, the sum with 127 in each byte has 127 there
no_carry : (a k : ℕ) → k < 8 → a % 2 ^ (k * 8) ≤ 0x7F7F7F7F7F7F7F7F % 2 ^ (k * 8) → byte_at a k ≡ 0 → byte_at (a + 0x7F7F7F7F7F7F7F7F) k ≡ 127
unfolding byte_at
no_carry a zero h l e = omega arith
no_carry a (suc zero) h l e = omega arith
no_carry a (suc (suc zero)) h l e = omega arith
no_carry a (suc (suc (suc zero))) h l e = omega arith
no_carry a (suc (suc (suc (suc zero)))) h l e = omega arith
no_carry a (suc (suc (suc (suc (suc zero))))) h l e = omega arith
no_carry a (suc (suc (suc (suc (suc (suc zero)))))) h l e = omega arith
no_carry a (suc (suc (suc (suc (suc (suc (suc zero))))))) h l e = omega arith
no_carry a (suc (suc (suc (suc (suc (suc (suc (suc k)))))))) h l e = absurd (omega arith)

high_byte : (k : ℕ) → k < 8 → byte_at 0x8080808080808080 k ≡ 128
unfolding byte_at
high_byte zero h = refl
high_byte (suc zero) h = refl
high_byte (suc (suc zero)) h = refl
high_byte (suc (suc (suc zero))) h = refl
high_byte (suc (suc (suc (suc zero)))) h = refl
high_byte (suc (suc (suc (suc (suc zero))))) h = refl
high_byte (suc (suc (suc (suc (suc (suc zero)))))) h = refl
high_byte (suc (suc (suc (suc (suc (suc (suc zero))))))) h = refl
high_byte (suc (suc (suc (suc (suc (suc (suc (suc k)))))))) h = absurd (omega arith)

-- the test: the highest bit of a byte of 0 stays 0
nought_seen : (x k : ℕ) → k < 8 → byte_at x k ≡ 0
    → byte_at (bit_and (bit_or (bit_and x 0x7F7F7F7F7F7F7F7F + 0x7F7F7F7F7F7F7F7F) x) 0x8080808080808080) k ≡ 0
nought_seen x k h e =
    let a : ℕ = bit_and x 0x7F7F7F7F7F7F7F7F in
    let l : a % 2 ^ (k * 8) ≤ 0x7F7F7F7F7F7F7F7F % 2 ^ (k * 8) = rw (and_mod x 0x7F7F7F7F7F7F7F7F (k * 8)) (and_le_r (x % 2 ^ (k * 8)) (0x7F7F7F7F7F7F7F7F % 2 ^ (k * 8))) in
    let z : byte_at a k ≡ 0 = byte_and x 0x7F7F7F7F7F7F7F7F k ∙ ap (λ (b : ℕ). bit_and b (byte_at 0x7F7F7F7F7F7F7F7F k)) e in
    byte_and (bit_or (a + 0x7F7F7F7F7F7F7F7F) x) 0x8080808080808080 k
    ∙ ap₂ bit_and (byte_or (a + 0x7F7F7F7F7F7F7F7F) x k ∙ ap₂ bit_or (no_carry a k h l z) e) (high_byte k h)

pub none_is : (w y x k : ℕ) → y < 256 → x ≡ bit_xor w (y * 0x0101010101010101)
    → bit_and (bit_or (bit_and x 0x7F7F7F7F7F7F7F7F + 0x7F7F7F7F7F7F7F7F) x) 0x8080808080808080 ≡ 0x8080808080808080 → k < 8 → byte_at w k ≡ y → ⊥
none_is w y x k fit d t h e =
    let z : byte_at x k ≡ 0 =
    ap (λ (b : ℕ). byte_at b k) d ∙ byte-sum w (y * 0x0101010101010101) k ∙ ap₂ sum e (each_byte y k fit h) ∙ sum_self y in
    let q : ◌≡◌ {A = ℕ} 0 128 = sym (nought_seen x k h z) ∙ ap (λ (b : ℕ). byte_at b k) t ∙ high_byte k h in
    omega arith

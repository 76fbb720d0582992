-- Words as bytes: sums, a byte more at the end, and the register in two words.
-- Assumes nothing.
use mathlib.Core.Path.{◌≡◌, refl, sym, ap, ap₂, ◌∙◌}
use mathlib.Core.List.{List, [], ◌∷◌, ◌++◌}
use Prim.Native.Nat.{ℕ, zero, suc, ◌+◌, ◌*◌, ◌/◌, ◌%◌, ◌^◌, ◌<◌}
use native.Mathlib.Omega.{arith}
use lib.ListN.{length, length-append}
use lib.Bits.{bit_xor, xor_shr, xor_mod}
use Rattle.ground.specs.Bits.{sum}
use Rattle.code.specs.Code.{add}
use Rattle.code.proofs.Lists.{zeros}
use Rattle.ground.proofs.Numbers.{push_digit}
use Rattle.encoding.specs.InnerRegister.{unpack, both}

pub length-unpack : (k w : ℕ) → length (unpack k w) ≡ k
unfolding unpack
length-unpack zero w = refl
length-unpack (suc k) w = ap suc (length-unpack k w)

pub length_both : (h l : ℕ) → length (both h l) ≡ 16
unfolding both
length_both h l = length-append (unpack 8 h) (unpack 8 l) ∙ ap₂ ◌+◌ (length-unpack 8 h) (length-unpack 8 l)

pub unpack_zero : unpack 8 0 ≡ zeros 8
unfolding unpack
unpack_zero = refl

pub both_zero : both 0 0 ≡ zeros 16
unfolding both unpack
both_zero = refl

-- ---- sums

pub unpack-xor : (k x y : ℕ) → unpack k (bit_xor x y) ≡ add (unpack k x) (unpack k y)
unfolding unpack add sum
unpack-xor zero x y = refl
unpack-xor (suc k) x y =
    ap₂ ◌∷◌ (ap (λ (z : ℕ). z % 256) (xor_shr x y (k * 8)) ∙ xor_mod (x / 2 ^ (k * 8)) (y / 2 ^ (k * 8)) 8) (unpack-xor k x y)

pub add-beside : (a b c d : List ℕ) → length a ≡ length c → add (a ++ b) (c ++ d) ≡ add a c ++ add b d
unfolding add
add-beside [] b [] d e = refl
add-beside [] b (z ∷ c) d e = absurd (omega arith)
add-beside (x ∷ a) b [] d e = absurd (omega arith)
add-beside (x ∷ a) b (z ∷ c) d e = ap (λ (l : List ℕ). sum x z ∷ l) (add-beside a b c d (omega arith))

pub both-xor : (h l x y : ℕ) → both (bit_xor h x) (bit_xor l y) ≡ add (both h l) (both x y)
unfolding both
both-xor h l x y =
    ap₂ ◌++◌ (unpack-xor 8 h x) (unpack-xor 8 l y)
    ∙ sym (add-beside (unpack 8 h) (unpack 8 l) (unpack 8 x) (unpack 8 y) (length-unpack 8 h ∙ sym (length-unpack 8 x)))

-- ---- a byte more at the end

pub unpack_push : (k x b : ℕ) → b < 256 → unpack (suc k) (x * 256 + b) ≡ unpack k x ++ (b ∷ [])
unfolding unpack
unpack_push zero x b h = let e : (x * 256 + b) / 1 % 256 ≡ b = omega arith in ap (λ (n : ℕ). n ∷ []) e
unpack_push (suc k) x b h = ap₂ ◌∷◌ (ap (λ (n : ℕ). n % 256) (push_digit k x b h)) (unpack_push k x b h)

-- a byte by itself
pub unpack-byte : (b : ℕ) → b < 256 → unpack 8 b ≡ zeros 7 ++ (b ∷ [])
unfolding unpack
unpack-byte b h = let e : b ≡ 0 * 256 + b = omega arith in ap (unpack 8) e ∙ unpack_push 7 0 b h

-- the top byte is nothing
pub unpack-top : (w : ℕ) → w < 2 ^ 56 → unpack 8 w ≡ 0 ∷ unpack 7 w
unfolding unpack
unpack-top w h = let e : w / 2 ^ 56 % 256 ≡ 0 = omega arith in ap (λ (b : ℕ). b ∷ unpack 7 w) e

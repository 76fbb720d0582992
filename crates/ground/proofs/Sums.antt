-- The laws of the sum of two polynomials over the bits, and of a bit times a polynomial.
-- Assumes nothing.
use mathlib.Core.Path.{◌≡◌, refl, sym, ap, ap₂, ◌∙◌}
use Prim.Native.Nat.{ℕ, zero, suc, ◌*◌, ◌/◌, ◌%◌, ◌^◌, ◌<◌}
use native.Mathlib.Nat.{add-zero, mod-lt, zero-lt-suc}
use native.Mathlib.Omega.{arith}
use lib.Pow.{pow_pos}
use lib.Bits.{bit_xor, differ, xor_assoc, xor_comm, xor_self, xor_zero_r, xor_block, xor_shr, xor_mod, xor_lt}
use Rattle.ground.specs.Bits.{sum, keep}

-- of two bits
bit-xor : (x y : ℕ) → x < 2 → y < 2 → bit_xor x y ≡ differ x y
bit-xor zero y hx hy = refl
bit-xor (suc zero) zero hx hy = refl
bit-xor (suc zero) (suc zero) hx hy = refl
bit-xor (suc zero) (suc (suc y)) hx hy = omega arith
bit-xor (suc (suc x)) y hx hy = omega arith

odd_lt : (a : ℕ) → a % 2 < 2
odd_lt a = mod-lt a (zero-lt-suc 1)

xor_odd : (a b : ℕ) → bit_xor a b % 2 ≡ differ (a % 2) (b % 2)
xor_odd a b = xor_mod a b 1 ∙ bit-xor (a % 2) (b % 2) (odd_lt a) (odd_lt b)

pub sum_assoc : (a b c : ℕ) → sum (sum a b) c ≡ sum a (sum b c)
unfolding sum
sum_assoc a b c = xor_assoc a b c

pub sum_comm : (a b : ℕ) → sum a b ≡ sum b a
unfolding sum
sum_comm a b = xor_comm a b

pub sum-left_comm : (a b c : ℕ) → sum a (sum b c) ≡ sum b (sum a c)
sum-left_comm a b c = sym (sum_assoc a b c) ∙ ap (λ (x : ℕ). sum x c) (sum_comm a b) ∙ sum_assoc b a c

pub sum_self : (a : ℕ) → sum a a ≡ zero
unfolding sum
sum_self a = xor_self a

pub sum_zero : (a : ℕ) → sum a zero ≡ a
unfolding sum
sum_zero a = xor_zero_r a

pub zero_sum : (a : ℕ) → sum zero a ≡ a
unfolding sum
zero_sum a = refl

pub sum_shr : (a b k : ℕ) → sum a b / 2 ^ k ≡ sum (a / 2 ^ k) (b / 2 ^ k)
unfolding sum
sum_shr a b k = xor_shr a b k

pub sum-mod : (a b k : ℕ) → sum a b % 2 ^ k ≡ sum (a % 2 ^ k) (b % 2 ^ k)
unfolding sum
sum-mod a b k = xor_mod a b k

pub sum_lt : (k a b : ℕ) → a < 2 ^ k → b < 2 ^ k → sum a b < 2 ^ k
unfolding sum
sum_lt k a b ha hb = xor_lt k a b ha hb

pub sum_twice : (a b : ℕ) → sum a b * 2 ≡ sum (a * 2) (b * 2)
unfolding sum
sum_twice a b =
    sym (add-zero (bit_xor a b * 2)) ∙ sym (xor_block 1 a b zero zero (zero-lt-suc 1) (zero-lt-suc 1))
    ∙ ap₂ bit_xor (add-zero (a * 2)) (add-zero (b * 2))

-- equal, where the sum is nothing
pub sum_cancel : (a b : ℕ) → sum a b ≡ zero → a ≡ b
sum_cancel a b e =
    sym (sum_zero a) ∙ ap (sum a) (sym (sum_self b)) ∙ sym (sum_assoc a b b) ∙ ap (λ (x : ℕ). sum x b) e ∙ zero_sum b

pub swap4 : (a b c d : ℕ) → sum (sum a b) (sum c d) ≡ sum (sum a c) (sum b d)
swap4 a b c d = simp (sum_assoc, sum-left_comm)

-- ---- a bit times a polynomial

pub keep-sum : (n b c : ℕ) → keep n (sum b c) ≡ sum (keep n b) (keep n c)
keep-sum zero b c = sym (zero_sum zero)
keep-sum (suc n) b c = refl

pub keep_lt : (k n b : ℕ) → b < 2 ^ k → keep n b < 2 ^ k
keep_lt k zero b h = pow_pos k
keep_lt k (suc n) b h = h

differ_keep : (x y g : ℕ) → x < 2 → y < 2 → keep (differ x y) g ≡ sum (keep x g) (keep y g)
differ_keep zero y g hx hy = sym (zero_sum (keep y g))
differ_keep (suc zero) zero g hx hy = sym (sum_zero g)
differ_keep (suc zero) (suc zero) g hx hy = sym (sum_self g)
differ_keep (suc zero) (suc (suc y)) g hx hy = omega arith
differ_keep (suc (suc x)) y g hx hy = omega arith

-- the bit is the lowest one of a sum
pub odd_keep : (a b g : ℕ) → keep (sum a b % 2) g ≡ sum (keep (a % 2) g) (keep (b % 2) g)
unfolding sum
odd_keep a b g = ap (λ (x : ℕ). keep x g) (xor_odd a b) ∙ differ_keep (a % 2) (b % 2) g (odd_lt a) (odd_lt b)

-- GF(256): document 01, section 3. A byte is a polynomial over the bits, bit i the coefficient of x^i, and counts modulo p(x) = x^8 + x^4 + x^3 + x^2 + 1.
-- The sum of two elements is the exclusive or (`sum` of the crate ground). Assumes nothing.
use Rattle.std.specs.Prelude.{◌≡◌, ℕ, zero, suc, ◌+◌, ◌*◌, ◌/◌, ◌%◌, ◌^◌, ◌<◌}
use Rattle.ground.specs.Bits.{sum, keep}

-- p(x): 256 + 16 + 8 + 4 + 1
abbrev pub p : ℕ
p = 285

-- the product of two polynomials over the bits, by the n low bits of a: where bit i of a is 1, b · x^i is added
unfoldable pub carryless : ℕ → ℕ → ℕ → ℕ
carryless zero a b = zero
carryless (suc n) a b = sum (keep (a % 2) b) (carryless n (a / 2) (b * 2))

-- the remainder by p, of a polynomial of degree below 8 + n: from the top down, where the coefficient of x^(8 + k) is 1, p · x^k is taken away, which over the bits is added
unfoldable pub reduce : ℕ → ℕ → ℕ
reduce zero v = v
reduce (suc k) v = reduce k (sum v (keep (v / 2 ^ (8 + k) % 2) (p * 2 ^ k)))

-- the product of two bytes: the product of their polynomials, whose degree is at most 14, reduced by p. Of a larger number the low byte counts.
unfoldable pub product : ℕ → ℕ → ℕ
product a b = reduce 7 (carryless 8 (a % 256) (b % 256))

-- x to the j
unfoldable pub expo : ℕ → ℕ → ℕ
expo x zero = 1
expo x (suc j) = product x (expo x j)

-- the powers of α, which is 2
abbrev pub power : ℕ → ℕ
power i = expo 2 i

-- r is one over a; 0 for 0
pub record Inverse (a r : ℕ) : Type 0 where
  pub byte : r < 256
  pub of_zero : a ≡ 0 → r ≡ 0
  pub of_other : (a ≡ 0 → ⊥) → product a r ≡ 1

-- RS(255,239): document 01, section 3 (source document 001, section 6). Bytes are elements of GF(256).
-- A polynomial is the list of its coefficients, the highest power first, as a row has them: byte 0 of a row is the coefficient of x^254 and byte 254 that of x^0.
-- Assumes nothing.
use Rattle.std.specs.Prelude.{◌≡◌, cond, List, [], ◌∷◌, ◌++◌, ℕ, zero, suc, ◌<◌, eqb, length}
use Rattle.ground.specs.Bits.{sum}
use Rattle.field.specs.Field.{product}

-- every entry is a byte
unfoldable pub Bytes : List ℕ → Type 0
Bytes [] = Unit {0}
Bytes (x ∷ xs) = (x < 256) × Bytes xs

-- the sum, place by place from the front; what is left of the longer list stays
unfoldable pub add : List ℕ → List ℕ → List ℕ
add [] ys = ys
add (x ∷ xs) [] = x ∷ xs
add (x ∷ xs) (y ∷ ys) = sum x y ∷ add xs ys

-- a times a polynomial
unfoldable pub scale : ℕ → List ℕ → List ℕ
scale a [] = []
scale a (x ∷ xs) = product a x ∷ scale a xs

-- the product of two polynomials: place k has the sum of q_i · g_(k - i)
unfoldable pub times : List ℕ → List ℕ → List ℕ
times [] g = []
times (a ∷ q) g = add (scale a g) (zero ∷ times q g)

-- the generator's coefficients
unfoldable pub generator : List ℕ
generator = 1 ∷ 59 ∷ 13 ∷ 104 ∷ 189 ∷ 68 ∷ 209 ∷ 30 ∷ 8 ∷ 163 ∷ 65 ∷ 41 ∷ 229 ∷ 98 ∷ 50 ∷ 36 ∷ 59 ∷ []

-- a coded row: 255 bytes, divisible by the generator (of 17 coefficients, so that the quotient has 239)
pub record Coded (row : List ℕ) : Type 0 where
  pub sized : length row ≡ 255
  pub bytes : Bytes row
  pub quotient : List ℕ
  pub quotient-sized : length quotient ≡ 239
  pub quotient-bytes : Bytes quotient
  pub divides : row ≡ times quotient generator

-- the checks of 239 information bytes: the sixteen bytes that make the row coded; no other do
pub record Checks (info c : List ℕ) : Type 0 where
  pub sized : length c ≡ 16
  pub coded : Coded (info ++ c)
  pub only : (d : List ℕ) → length d ≡ 16 → Coded (info ++ d) → d ≡ c

-- at how many places two rows of one length differ
unfoldable pub distance : List ℕ → List ℕ → ℕ
distance [] ys = zero
distance (x ∷ xs) [] = zero
distance (x ∷ xs) (y ∷ ys) = cond (eqb x y) (distance xs ys) (suc (distance xs ys))

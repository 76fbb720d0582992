-- Polynomials over GF(256) at a point (document 01, section 3): vocabulary for syndromes (`value`, crate terms), for roots (`eval`, crate roots), and for the laws.
-- For repair nobody needs to believe it: what is coded is said by division (Code.antt), and `coded-values`, `values-coded` (proofs/Values.antt) tie the two. Assumes nothing.
use Rattle.std.specs.Prelude.{List, [], ◌∷◌, ℕ, zero, suc, length}
use Rattle.ground.specs.Bits.{sum}
use Rattle.field.specs.Field.{product, expo}

-- the value at x of a polynomial whose highest power stands first, as a row has them
unfoldable pub value : List ℕ → ℕ → ℕ
value [] x = zero
value (c ∷ cs) x = sum (product c (expo x (length cs))) (value cs x)

-- the value at x of a polynomial whose constant stands first, as a locator has them
unfoldable pub eval : List ℕ → ℕ → ℕ
eval [] x = zero
eval (c ∷ cs) x = sum c (product x (eval cs x))

-- f_0 · s_j + f_1 · s_(j + 1) + .., over the coefficients of f
unfoldable pub dot : List ℕ → (ℕ → ℕ) → ℕ → ℕ
dot [] s j = zero
dot (c ∷ cs) s j = sum (product c (s j)) (dot cs s (suc j))

-- (x - y) multiplied over the points y
unfoldable pub away : List ℕ → ℕ → ℕ
away [] x = 1
away (y ∷ ys) x = product (away ys x) (sum x y)

-- the syndromes s with the share of each point y taken out: s_(j + 1) - y · s_j, point after point
unfoldable pub sift : List ℕ → (ℕ → ℕ) → ℕ → ℕ
sift [] s j = s j
sift (y ∷ ys) s j = sum (sift ys s (suc j)) (product y (sift ys s j))

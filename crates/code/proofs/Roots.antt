-- Roots (document 01, section 3: repair). A polynomial that is not zero, of n + 1 coefficients, has at most n roots: a root y divides it by (x - y), with Horner's quotient, and the other roots are those of the
-- quotient, which has one coefficient less. Here the constant stands first, as a locator has it (`eval`). Then: few places of a row are roots of a locator.
-- Assumes nothing.
use mathlib.Core.Path.{◌≡◌, refl, sym, ap, ap₂, ◌∙◌}
use mathlib.Core.Logic.{◌≢◌, ⊎_elim}
use mathlib.Core.Bool.{Bool, true, false, cond}
use mathlib.Core.List.{List, [], ◌∷◌}
use Prim.Native.Nat.{ℕ, zero, suc, ◌+◌, ◌≤◌, ◌<◌}
use native.Mathlib.Nat.{not-suc-le-zero}
use native.Mathlib.Decide.{dec_lt}
use native.Mathlib.Omega.{arith}
use lib.Dec.{eqb}
use lib.ListN.{length, get_or}
use borrow.Author.Tests.{eqb-false}
use Rattle.ground.specs.Bits.{sum}
use Rattle.ground.proofs.Sums.{sum_zero, zero_sum, sum_cancel}
use Rattle.field.specs.Field.{product, power}
use Rattle.field.proofs.Laws.{ring, sum-byte, product-byte, product_zero, zero_divisor, power-byte, power_injective}
use Rattle.code.specs.Code.{Bytes}
use Rattle.code.specs.Value.{eval}
use Rattle.code.proofs.Lists.{sum-again}
use Rattle.code.proofs.Distance.{nonzeros}

pub eval-byte : (f : List ℕ) (x : ℕ) → Bytes f → eval f x < 256
unfolding eval Bytes
eval-byte [] x b = omega arith
eval-byte (c ∷ cs) x b = sum-byte c (product x (eval cs x)) b.0 (product-byte x (eval cs x))

-- ---- the quotient by (x - y)

-- of c ∷ f, for any c
unfoldable quotient : List ℕ → ℕ → List ℕ
quotient [] y = []
quotient (d ∷ f) y = eval (d ∷ f) y ∷ quotient f y

quotient-length : (f : List ℕ) (y : ℕ) → length (quotient f y) ≡ length f
unfolding quotient
quotient-length [] y = refl
quotient-length (d ∷ f) y = ap suc (quotient-length f y)

quotient-bytes : (f : List ℕ) (y : ℕ) → Bytes f → Bytes (quotient f y)
unfolding quotient Bytes
quotient-bytes [] y b = tt
quotient-bytes (d ∷ f) y b = (eval-byte (d ∷ f) y b, quotient-bytes f y b.1)

factor_end : (c x y : ℕ) → sum c (product x 0) ≡ sum (sum c (product y 0)) (product (sum x y) 0)
factor_end c x y = simp (product_zero, sum_zero)

factor_step : (c x y f q : ℕ) → sum c (product x (sum f (product (sum x y) q))) ≡ sum (sum c (product y f)) (product (sum x y) (sum f (product x q)))
factor_step c x y f q = simp (ring, sum-again)

-- f(x) = f(y) + (x - y) · q(x)
factor : (c : ℕ) (f : List ℕ) (x y : ℕ) → eval (c ∷ f) x ≡ sum (eval (c ∷ f) y) (product (sum x y) (eval (quotient f y) x))
unfolding eval quotient
factor c [] x y = factor_end c x y
factor c (d ∷ f) x y = ap (λ (z : ℕ). sum c (product x z)) (factor d f x y) ∙ factor_step c x y (eval (d ∷ f) y) (eval (quotient f y) x)

-- ---- zero polynomials

unfoldable pub Zeros : List ℕ → Type 0
Zeros [] = Unit {0}
Zeros (c ∷ f) = (c ≡ 0) × Zeros f

pub zeros_at : (f : List ℕ) → Zeros f → (i : ℕ) → get_or f i 0 ≡ 0
unfolding Zeros
zeros_at [] z i = refl
zeros_at (c ∷ f) z zero = z.0
zeros_at (c ∷ f) z (suc i) = zeros_at f z.1 i

eval_zeros : (f : List ℕ) (x : ℕ) → Zeros f → eval f x ≡ 0
unfolding eval Zeros
eval_zeros [] x z = refl
eval_zeros (c ∷ f) x z = ap₂ (λ (a b : ℕ). sum a (product x b)) z.0 (eval_zeros f x z.1) ∙ zero_sum (product x 0) ∙ product_zero x

constant : (c : ℕ) (f : List ℕ) (y : ℕ) → eval (c ∷ f) y ≡ 0 → Zeros f → c ≡ 0
unfolding eval
constant c f y e z = sym (sum_zero c) ∙ ap (sum c) (sym (product_zero y) ∙ ap (product y) (sym (eval_zeros f y z))) ∙ e

quotient_zeros : (f : List ℕ) (y : ℕ) → Zeros (quotient f y) → Zeros f
unfolding quotient Zeros
quotient_zeros [] y z = tt
quotient_zeros (d ∷ f) y z = let w : Zeros f = quotient_zeros f y z.1 in (constant d f y z.0 w, w)

-- ---- roots

-- each of xs is a root
unfoldable pub Roots : List ℕ → List ℕ → Type 0
Roots f [] = Unit {0}
Roots f (x ∷ xs) = (eval f x ≡ 0) × Roots f xs

-- none of xs is y
unfoldable pub Off : ℕ → List ℕ → Type 0
Off y [] = Unit {0}
Off y (x ∷ xs) = (x ≢ y) × Off y xs

-- bytes, no two of them one
unfoldable pub Different : List ℕ → Type 0
Different [] = Unit {0}
Different (x ∷ xs) = (x < 256) × Off x xs × Different xs

other_roots : (c : ℕ) (f : List ℕ) (y : ℕ) (xs : List ℕ) → y < 256 → Bytes f → eval (c ∷ f) y ≡ 0 → Off y xs → Different xs → Roots (c ∷ f) xs → Roots (quotient f y) xs
unfolding Roots Off Different
other_roots c f y [] hy b e o d r = tt
other_roots c f y (x ∷ xs) hy b e o d r = (
  ⊎_elim (λ (s : sum x y ≡ 0). absurd (o.0 (sum_cancel x y s))) (λ (s : eval (quotient f y) x ≡ 0). s)
      (zero_divisor (sum x y) (eval (quotient f y) x) (sum-byte x y d.0 hy) (eval-byte (quotient f y) x (quotient-bytes f y b))
      (sym (zero_sum (product (sum x y) (eval (quotient f y) x))) ∙ ap (λ (z : ℕ). sum z (product (sum x y) (eval (quotient f y) x))) (sym e)
      ∙ sym (factor c f x y) ∙ r.0)),
  other_roots c f y xs hy b e o.1 d.2 r.1,
)

-- as many different roots as coefficients: the polynomial is zero
pub roots_zeros : (xs f : List ℕ) → length f ≤ length xs → Bytes f → Different xs → Roots f xs → Zeros f
unfolding Roots Different Bytes Zeros
roots_zeros [] [] h b d r = tt
roots_zeros (y ∷ xs) [] h b d r = tt
roots_zeros [] (c ∷ f) h b d r = absurd (not-suc-le-zero h)
roots_zeros (y ∷ xs) (c ∷ f) h b d r =
    let l : length (quotient f y) ≡ length f = quotient-length f y in
    let z : Zeros f =
    quotient_zeros f y
    (roots_zeros xs (quotient f y) (omega arith) (quotient-bytes f y b.1) d.2 (other_roots c f y xs d.0 b.1 r.0 d.1 d.2 r.1)) in
    (constant c f y r.0 z, z)

-- a coefficient that is not zero: fewer roots than coefficients
pub roots_few : (f xs : List ℕ) (i : ℕ) → Bytes f → get_or f i 0 ≢ 0 → Different xs → Roots f xs → length xs < length f
roots_few f xs i b n d r = sides (dec_lt (length xs) (length f))
  where
    sides : Dec (length xs < length f) → length xs < length f
    sides (yes h) = h
    sides (no h) = absurd (n (zeros_at f (roots_zeros xs f (omega arith) b d r) i))

-- ---- places of a row that are roots

-- the points of the entries that are not zero
unfoldable pub points : List ℕ → List ℕ
points [] = []
points (m ∷ ms) = cond (eqb m 0) (points ms) (power (length ms) ∷ points ms)

length_points : (ms : List ℕ) → length (points ms) ≡ nonzeros ms
unfolding points nonzeros
length_points [] = refl
length_points (m ∷ ms) = at (eqb m 0) (length_points ms)
  where
    at : (t : Bool) → length (points ms) ≡ nonzeros ms → length (cond t (points ms) (power (length ms) ∷ points ms)) ≡ cond t (nonzeros ms) (suc (nonzeros ms))
    at true e = e
    at false e = ap suc e

points_off : (k : ℕ) (ms : List ℕ) → length ms ≤ k → k < 255 → Off (power k) (points ms)
unfolding Off points
points_off k [] h n = tt
points_off k (m ∷ ms) h n = at (eqb m 0) (points_off k ms (omega arith) n)
  where
    at : (t : Bool) → Off (power k) (points ms) → Off (power k) (cond t (points ms) (power (length ms) ∷ points ms))
    at true o = o
    at false o = ((λ e. let z : length ms ≡ k = power_injective (length ms) k (omega arith) n e in omega arith), o)

pub points_different : (ms : List ℕ) → length ms ≤ 255 → Different (points ms)
unfolding Different points
points_different [] n = tt
points_different (m ∷ ms) n = at (eqb m 0) (points_different ms (omega arith))
  where
    at : (t : Bool) → Different (points ms) → Different (cond t (points ms) (power (length ms) ∷ points ms))
    at true d = d
    at false d = (power-byte (length ms), points_off (length ms) ms (omega arith) (omega arith), d)

-- place i, with k places behind it, is a root where it is marked
pub points_roots : (f ms : List ℕ) → ((i k : ℕ) → i + suc k ≡ length ms → get_or ms i 0 ≢ 0 → eval f (power k) ≡ 0) → Roots f (points ms)
unfolding Roots points
points_roots f [] z = tt
points_roots f (m ∷ ms) z = at (eqb m 0) refl (points_roots f ms (λ i k h n. z (suc i) k (omega arith) n))
  where
    at : (t : Bool) → eqb m 0 ≡ t → Roots f (points ms) → Roots f (cond t (points ms) (power (length ms) ∷ points ms))
    at true e r = r
    at false e r = (z 0 (length ms) (omega arith) (eqb-false m 0 e), r)

-- where each marked place of a row is a root of f, which is not zero, fewer places are marked than f has coefficients
pub marks_few : (f ms : List ℕ) (c : ℕ) → Bytes f → get_or f c 0 ≢ 0 → length ms ≤ 255
    → ((i k : ℕ) → i + suc k ≡ length ms → get_or ms i 0 ≢ 0 → eval f (power k) ≡ 0) → nonzeros ms < length f
marks_few f ms c b n l z =
    let e : length (points ms) ≡ nonzeros ms = length_points ms in
    let h : length (points ms) < length f = roots_few f (points ms) c b n (points_different ms l) (points_roots f ms z) in
    omega arith

-- The byte of an error at one place (document 01, section 3: repair), from the syndromes and the other places: the syndromes, sifted by the other points, are the moments of the error under the weight that
-- is nothing at those points, so one term is left. Then for rows: what is to be added at a place to reach a coded row near, where all other places that differ are known.
-- Assumes nothing.
use mathlib.Core.Path.{◌≡◌, refl, sym, ap, ap₂, ◌∙◌}
use mathlib.Core.Logic.{◌≢◌, ◌⊎◌, ⊎_elim}
use mathlib.Core.List.{List, [], ◌∷◌}
use Prim.Native.Nat.{ℕ, zero, suc, ◌+◌, ◌<◌}
use native.Mathlib.Nat.{not-suc-le-zero, le_of_suc-le-suc}
use native.Mathlib.Omega.{arith}
use lib.ListN.{length, get_or}
use Rattle.ground.specs.Bits.{sum}
use Rattle.ground.proofs.Sums.{sum_self, sum_cancel}
use Rattle.field.specs.Field.{product, power}
use Rattle.field.proofs.Laws.{sum-byte, product-byte, product-sum-left, product_zero, zero_product, zero_divisor}
use Rattle.code.specs.Code.{Bytes, add}
use Rattle.code.specs.Repair.{Near}
use Rattle.code.specs.Value.{value, away, sift}
use Rattle.code.proofs.Lists.{sum-again, bytes_at_lem}
use Rattle.code.proofs.Weights.{Term, moment, one, terms, moment_value, moment_shift, moment_skip, moment_first, vanish_from}
use Rattle.code.proofs.Roots.{Off, Different}
use Rattle.code.proofs.Locate.{error_length, error_bytes, error_at, error_values}

-- ---- the weight that is nothing at the points

pub away-byte : (ys : List ℕ) (x : ℕ) → away ys x < 256
unfolding away
away-byte [] x = omega arith
away-byte (y ∷ ys) x = product-byte (away ys x) (sum x y)

pub away_zero : (ys : List ℕ) (n : ℕ) → n < length ys → away ys (get_or ys n 0) ≡ 0
unfolding away
away_zero [] n h = absurd (not-suc-le-zero h)
away_zero (y ∷ ys) zero h = ap (product (away ys y)) (sum_self y) ∙ product_zero (away ys y)
away_zero (y ∷ ys) (suc n) h =
    ap (λ (z : ℕ). product z (sum (get_or ys n 0) y)) (away_zero ys n (le_of_suc-le-suc h)) ∙ zero_product (sum (get_or ys n 0) y)

pub away_nonzero : (ys : List ℕ) (x : ℕ) → x < 256 → Off x ys → Different ys → away ys x ≢ 0
unfolding away Off Different
away_nonzero [] x h o d e = omega arith
away_nonzero (y ∷ ys) x h o d e =
    ⊎_elim (away_nonzero ys x h o.1 d.2) (λ (z : sum x y ≡ 0). o.0 (sym (sum_cancel x y z)))
    (zero_divisor (away ys x) (sum x y) (away-byte ys x) (sum-byte x y h d.0) e)

-- ---- sifting

pub moment_sift : (ys : List ℕ) (ts : List Term) (j : ℕ) → moment (away ys) ts j ≡ sift ys (moment one ts) j
unfolding away sift
moment_sift [] ts j = refl
moment_sift (y ∷ ys) ts j =
    moment_shift (away ys) y ts j ∙ ap₂ (λ (a b : ℕ). sum a (product y b)) (moment_sift ys ts (suc j)) (moment_sift ys ts j)

pub sift_ext : (ys : List ℕ) (s t : ℕ → ℕ) (n j : ℕ) → j + length ys < n → ((k : ℕ) → k < n → s k ≡ t k) → sift ys s j ≡ sift ys t j
unfolding sift
sift_ext [] s t n j h e = e j (omega arith)
sift_ext (y ∷ ys) s t n j h e =
    ap₂ (λ (a b : ℕ). sum a (product y b)) (sift_ext ys s t n (suc j) (omega arith) e) (sift_ext ys s t n j (omega arith) e)

pub sift-byte : (ys : List ℕ) (s : ℕ → ℕ) (j : ℕ) → ((k : ℕ) → s k < 256) → sift ys s j < 256
unfolding sift
sift-byte [] s j h = h j
sift-byte (y ∷ ys) s j h = sum-byte (sift ys s (suc j)) (product y (sift ys s j)) (sift-byte ys s (suc j) h) (product-byte y (sift ys s j))

-- ---- one term is left

single : (g : ℕ → ℕ) (e : List ℕ) (i k : ℕ) → i + suc k ≡ length e → ((j m : ℕ) → j + suc m ≡ length e → j ≢ i → product (get_or e j 0) (g (power m)) ≡ 0)
    → moment g (terms e) 0 ≡ product (get_or e i 0) (g (power k))
unfolding terms
single g [] i k h z = absurd (omega arith)
single g (c ∷ e) zero k h z =
    let n : length e ≡ k = omega arith in
    moment_first g (record { coef = c; point = power (length e) }) (terms e) (vanish_from g e (λ j m l. z (suc j) m (omega arith) (λ q. omega arith)))
    ∙ ap (λ (m : ℕ). product c (g (power m))) n
single g (c ∷ e) (suc i) k h z =
    moment_skip g (record { coef = c; point = power (length e) }) (terms e) 0 (z 0 (length e) (omega arith) (λ q. omega arith))
    ∙ single g e i k (omega arith) (λ j m l n. z (suc j) m (omega arith) (λ q. n (omega arith)))

-- the error e at byte i, with k bytes behind it, where each other byte is zero or stands at one of the points
pub errata : (e ys : List ℕ) (i k : ℕ) → i + suc k ≡ length e → ((j m : ℕ) → j + suc m ≡ length e → j ≢ i → product (get_or e j 0) (away ys (power m)) ≡ 0)
    → product (get_or e i 0) (away ys (power k)) ≡ sift ys (λ j. value e (power j)) 0
errata e ys i k h z =
    sym (single (away ys) e i k h z) ∙ moment_sift ys (terms e) 0
    ∙ sift_ext ys (moment one (terms e)) (λ j. value e (power j)) (suc (length ys)) 0 (omega arith) (λ j l. moment_value e j)

-- ---- a row r and a coded row s near it

pub product_cancel : (a b c : ℕ) → a < 256 → b < 256 → c < 256 → c ≢ 0 → product a c ≡ product b c → a ≡ b
product_cancel a b c ha hb hc n e =
    ⊎_elim (λ (z : sum a b ≡ 0). sum_cancel a b z) (λ (z : c ≡ 0). absurd (n z))
    (zero_divisor (sum a b) c (sum-byte a b ha hb) hc (product-sum-left a b c ∙ ap (λ (x : ℕ). sum x (product b c)) e ∙ sum_self (product b c)))

-- v is what the sifted syndromes of r give at byte i, with k bytes behind it; wherever else the rows differ, one of the at most fifteen points stands
pub mended : (r s : List ℕ) → length r ≡ 255 → Bytes r → Near r s → (ys : List ℕ) (syndromes : ℕ → ℕ) → length ys < 16
    → ((j : ℕ) → j < 16 → syndromes j ≡ value r (power j)) → (i k v : ℕ) → i + suc k ≡ 255
    → ((j m : ℕ) → j + suc m ≡ 255 → j ≢ i → (get_or r j 0 ≡ get_or s j 0) ⊎ (away ys (power m) ≡ 0))
    → v < 256 → away ys (power k) ≢ 0 → product v (away ys (power k)) ≡ sift ys syndromes 0 → sum (get_or r i 0) v ≡ get_or s i 0
mended r s sized bytes near ys syndromes few are i k v h others hv n says =
    let e : List ℕ = add r s in
    let l : length e ≡ 255 = error_length r s sized bytes near in
    let at : (j : ℕ) → get_or e j 0 ≡ sum (get_or r j 0) (get_or s j 0) = error_at r s sized bytes near in
    let z : (j m : ℕ) → j + suc m ≡ length e → j ≢ i → product (get_or e j 0) (away ys (power m)) ≡ 0 =
    (λ j m q d. ⊎_elim
    (λ (same : get_or r j 0 ≡ get_or s j 0). ap (λ (x : ℕ). product x (away ys (power m))) (at j ∙ ap (λ (x : ℕ). sum x (get_or s j 0)) same ∙ sum_self (get_or s j 0))
    ∙ zero_product (away ys (power m)))
    (λ (nought : away ys (power m) ≡ 0). ap (product (get_or e j 0)) nought ∙ product_zero (get_or e j 0)) (others j m (q ∙ l) d)) in
    let w : v ≡ get_or e i 0 =
    product_cancel v (get_or e i 0) (away ys (power k)) hv (bytes_at_lem e (error_bytes r s sized bytes near) i) (away-byte ys (power k)) n
    (says ∙ sift_ext ys syndromes (λ j. value e (power j)) 16 0 (omega arith) (λ j q. are j q ∙ sym (error_values r s sized bytes near j q))
    ∙ sym (errata e ys i k (h ∙ sym l) z)) in
    ap (sum (get_or r i 0)) (w ∙ at i) ∙ sum-again (get_or r i 0) (get_or s i 0)

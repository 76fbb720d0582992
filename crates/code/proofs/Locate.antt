-- The locator theorem (document 01, section 3: repair): a polynomial that the syndromes of an error annihilate is nothing at each place of the error. Its run with the syndromes is the moment of the error's
-- terms under the polynomial as the weight, and weights vanish. Then for rows: every place where a row and a coded row near it differ is a root of the locator.
-- Assumes nothing.
use mathlib.Core.Path.{◌≡◌, refl, sym, ap, ap₂, ◌∙◌, subst}
use mathlib.Core.Logic.{◌≢◌, ⊎_elim}
use mathlib.Core.List.{List, [], ◌∷◌}
use Prim.Native.Nat.{ℕ, suc, ◌+◌, ◌≤◌, ◌<◌}
use native.Mathlib.Omega.{arith}
use lib.ListN.{length, get_or}
use Rattle.ground.specs.Bits.{sum}
use Rattle.ground.proofs.Sums.{sum_zero, zero_sum, sum_cancel}
use Rattle.field.specs.Field.{product, power, expo}
use Rattle.field.proofs.Laws.{ring, product_assoc, product_one, product_zero, zero_product, zero_divisor, expo-byte}
use Rattle.code.specs.Code.{Bytes, add}
use Rattle.code.specs.Repair.{Near}
use Rattle.code.specs.Value.{value, eval, dot}
use Rattle.code.proofs.Lists.{add-bytes, bytes_at_lem, length-add, add_at}
use Rattle.code.proofs.Weights.{expo-suc, Term, moment, weight, Vanish, one, weights_vanish, terms, moment_value, terms_distinct, vanish_at}
use Rattle.code.proofs.Values.{value-add, coded-values}
use Rattle.code.proofs.Distance.{weight_nonzeros, nonzeros_add}
use Rattle.code.proofs.Roots.{eval-byte}

-- ---- the moment under a polynomial

moment_nought : (ts : List Term) (j : ℕ) → moment (λ x. 0) ts j ≡ 0
unfolding moment
moment_nought [] j = refl
moment_nought (t ∷ ts) j =
    ap₂ sum (ap (λ (x : ℕ). product x (expo t.point j)) (product_zero t.coef) ∙ zero_product (expo t.point j)) (moment_nought ts j) ∙ zero_sum 0

split_term : (k c x h p : ℕ) → p < 256 → product (product k (sum c (product x h))) p ≡ sum (product c (product (product k 1) p)) (product (product k h) (product x p))
split_term k c x h p b = rw (product_assoc k 1 p, product_one p b) (simp ring)

gather : (c a b m n : ℕ) → sum (sum (product c a) b) (sum (product c m) n) ≡ sum (product c (sum a m)) (sum b n)
gather c a b m n = simp ring

moment_cons : (c : ℕ) (h : ℕ → ℕ) (ts : List Term) (j : ℕ) → moment (λ x. sum c (product x (h x))) ts j ≡ sum (product c (moment one ts j)) (moment h ts (suc j))
unfolding moment
moment_cons c h [] j = sym (sum_zero (product c 0) ∙ product_zero c)
moment_cons c h (t ∷ ts) j =
    let a : ℕ = product (product t.coef 1) (expo t.point j) in
    let k : ℕ = product t.coef (h t.point) in
    ap₂ sum (split_term t.coef c t.point (h t.point) (expo t.point j) (expo-byte t.point j)) (moment_cons c h ts j)
    ∙ gather c a (product k (product t.point (expo t.point j))) (moment one ts j) (moment h ts (suc j))
    ∙ ap (λ (z : ℕ). sum (product c (sum a (moment one ts j))) (sum (product k z) (moment h ts (suc j)))) (sym (expo-suc t.point j))

pub moment_dot : (f : List ℕ) (ts : List Term) (j : ℕ) → moment (eval f) ts j ≡ dot f (moment one ts) j
unfolding eval dot
moment_dot [] ts j = moment_nought ts j
moment_dot (c ∷ f) ts j = moment_cons c (eval f) ts j ∙ ap (sum (product c (moment one ts j))) (moment_dot f ts (suc j))

pub dot_ext : (f : List ℕ) (s t : ℕ → ℕ) (j : ℕ) → ((k : ℕ) → k < j + length f → s k ≡ t k) → dot f s j ≡ dot f t j
unfolding dot
dot_ext [] s t j e = refl
dot_ext (c ∷ f) s t j e = ap₂ (λ (x y : ℕ). sum (product c x) y) (e j (omega arith)) (dot_ext f s t (suc j) (λ k h. e k (omega arith)))

-- ---- the theorem

-- e has at most n bytes that are not zero, and n runs of its syndromes annihilate f
pub locate : (n : ℕ) (e f : List ℕ) → length e ≤ 255 → weight (terms e) ≤ n → ((j : ℕ) → j < n → dot f (λ k. value e (power k)) j ≡ 0) → Vanish (eval f) (terms e)
locate n e f l w d =
    weights_vanish (terms e) (eval f) n w (terms_distinct e l)
    (λ j h. moment_dot f (terms e) j ∙ dot_ext f (moment one (terms e)) (λ k. value e (power k)) j (λ k m. moment_value e k) ∙ d j h)

-- ---- a row r and a coded row s near it; add r s is the error

module _ (r s : List ℕ) (sized : length r ≡ 255) (bytes : Bytes r) (near : Near r s) where
  same_length : length r ≡ length s
  same_length = sized ∙ sym near.coded.sized

  pub error_length : length (add r s) ≡ 255
  error_length = let e : length r ≡ length s = same_length in length-add r s (omega arith) ∙ near.coded.sized

  pub error_bytes : Bytes (add r s)
  error_bytes = add-bytes r s bytes near.coded.bytes

  pub error_at : (i : ℕ) → get_or (add r s) i 0 ≡ sum (get_or r i 0) (get_or s i 0)
  error_at = add_at r s same_length

  pub error_weight : weight (terms (add r s)) ≤ 8
  error_weight = subst (λ (n : ℕ). n ≤ 8) (sym (weight_nonzeros (add r s) ∙ nonzeros_add r s same_length)) near.close

  -- it has the syndromes of r
  pub error_values : (k : ℕ) → k < 16 → value (add r s) (power k) ≡ value r (power k)
  error_values k h =
      value-add r s (power k) same_length ∙ ap (sum (value r (power k))) (coded-values s near.coded k h) ∙ sum_zero (value r (power k))

  -- f is a locator: at most nine coefficients, annihilated by eight runs of the syndromes of r
  module _ (f : List ℕ) (syndromes : ℕ → ℕ) (nine : length f ≤ 9) (f-bytes : Bytes f) (are : (k : ℕ) → k < 16 → syndromes k ≡ value r (power k))
      (annihilated : (j : ℕ) → j < 8 → dot f syndromes j ≡ 0) where
    error_vanish : Vanish (eval f) (terms (add r s))
    error_vanish =
        let l : length (add r s) ≡ 255 = error_length in
        locate 8 (add r s) f (omega arith) error_weight
        (λ j h. dot_ext f (λ k. value (add r s) (power k)) syndromes j (λ k m. error_values k (omega arith) ∙ sym (are k (omega arith))) ∙ annihilated j h)

    -- where the locator is not nothing at byte i, with k bytes behind it, the rows agree
    pub located : (i k : ℕ) → i + suc k ≡ 255 → eval f (power k) ≢ 0 → get_or r i 0 ≡ get_or s i 0
    located i k h n =
        ⊎_elim (λ (z : get_or (add r s) i 0 ≡ 0). sum_cancel (get_or r i 0) (get_or s i 0) (sym (error_at i) ∙ z)) (λ (z : eval f (power k) ≡ 0). absurd (n z))
        (zero_divisor (get_or (add r s) i 0) (eval f (power k)) (bytes_at_lem (add r s) error_bytes i) (eval-byte f (power k) f-bytes)
        (vanish_at (eval f) (add r s) error_vanish i k (h ∙ sym error_length)))

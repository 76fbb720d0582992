-- The search through all exponents, eight at a time.
-- Assumes nothing.
use mathlib.Core.Path.{◌≡◌, refl, sym, ap, ap₂, subst, ◌∙◌}
use mathlib.Core.Bool.{Bool, true, false, cond, ◌&&◌}
use mathlib.Core.List.{List, [], ◌∷◌, ◌++◌, append-nil}
use Prim.Native.Nat.{ℕ, zero, suc, ◌+◌, ◌*◌, ◌≤◌, ◌<◌}
use native.Mathlib.Nat.{mul-zero, add-mul}
use native.Mathlib.Omega.{arith}
use borrow.Author.Tests.{eqb-true, eqb-false, ltb-true, ltb-false}
use lib.Dec.{eqb, ltb}
use lib.ListN.{length, get_or, take, replicate}
use lib.Seq.{ext_get_or}
use Rattle.ground.specs.Bits.{sum}
use Rattle.ground.specs.Lists.{listed}
use Rattle.ground.proofs.Listed.{length-listed, get_or-listed_0}
use Rattle.ground.proofs.Sums.{sum_self, sum_cancel}
use Rattle.field.specs.Field.{product, power}
use Rattle.field.proofs.Laws.{product_assoc, product-power, zero_product, power_zero}
use Rattle.code.specs.Value.{eval}
use Rattle.code.proofs.Weights.{one_product}
use Rattle.roots.specs.declared.Roots.{Roots}
use Rattle.roots.specs.Roots.{passing, is_root, root_list, roots_of}
use Rattle.words.specs.Words.{byte_at}
use Rattle.roots.specs.InnerWords.{Short, Moved, Held}
use Rattle.roots.proofs.Passing.{passing-append, passing-same, passing-none}
use Rattle.roots.proofs.Holding.{held-nothing}
use Rattle.roots.proofs.Values.{Stretched, stretched_value}

-- a root below 255
abbrev pub inside : List ℕ → ℕ → Bool
inside v e = is_root v e && ltb e 255

same_test : (m n p q : ℕ) → (m ≡ n → p ≡ q) → (p ≡ q → m ≡ n) → eqb m n ≡ eqb p q
same_test m n p q f g = go (eqb m n) (eqb p q) refl refl
  where
    go : (a b : Bool) → eqb m n ≡ a → eqb p q ≡ b → a ≡ b
    go true true x y = refl
    go true false x y = absurd (eqb-false p q y (f (eqb-true m n x)))
    go false true x y = absurd (eqb-false m n x (g (eqb-true p q y)))
    go false false x y = refl

-- b times eight exponents behind 0 have been tried
pub record Finding (v : List ℕ) (first top n : ℕ) (at t : List ℕ) (b : ℕ) : Type 0 where
  pub bytes : (i : ℕ) → get_or v i 0 < 256
  pub constant : get_or t 0 0 ≡ first
  pub stretched : Stretched (8 * b) v t
  pub short : Short top t
  pub held : Held (passing (inside v) (8 * b + 1) 0) n at

pub finding_start : (v : List ℕ) (top n x : ℕ) (at : List ℕ) → ((i : ℕ) → get_or v i 0 < 256) → Short top v → x ≡ eval v (power 0)
    → ((l : List ℕ) → Held l 0 (replicate 16 0) → Held (l ++ cond (eqb x 0 && ltb 0 255) (0 ∷ []) []) n at)
    → Finding v (get_or v 0 0) top n at v 0
unfolding passing
finding_start v top n x at fit short e noted =
    record {
      bytes = fit;
      constant = refl;
      stretched = record { sized = refl; entry = λ i. sym (ap (λ (j : ℕ). product (get_or v i 0) (power j)) (zero_times i) ∙ ap (product (get_or v i 0)) power_zero ∙ one_product (get_or v i 0) (fit i)) };
      short = short;
      held = rw e at (noted [] (held-nothing (replicate 16 0) refl));
    }
  where
    zero_times : (i : ℕ) → 8 * 0 * i ≡ 0
    zero_times i = omega arith

module _ {v : List ℕ} {first top n : ℕ} {at t : List ℕ} {b : ℕ} (was : Finding v first top n at t b) (w : ℕ) (moved : List ℕ) (is : Moved t w moved) where
  -- a byte of the word equals the constant exactly where there is a root
  tried : (k : ℕ) → k < 8 → inside v (8 * b + 1 + k) ≡ (eqb (byte_at w k) first && ltb (8 * b + 1 + k) 255)
  tried k h =
      let i : 8 * b + (k + 1) ≡ 8 * b + 1 + k = omega arith in
      let e : sum first (byte_at w k) ≡ eval v (power (8 * b + 1 + k)) =
      ap (λ (z : ℕ). sum z (byte_at w k)) (sym was.constant) ∙ is.values k h ∙ stretched_value was.stretched was.bytes (k + 1) ∙ ap (λ (j : ℕ). eval v (power j)) i in
      ap (λ (z : Bool). z && ltb (8 * b + 1 + k) 255)
      (same_test (eval v (power (8 * b + 1 + k))) 0 (byte_at w k) first
      (λ z. sym (sum_cancel first (byte_at w k) (e ∙ z)))
      (λ z. sym e ∙ ap (sum first) z ∙ sum_self first))

  further : (i : ℕ) → get_or moved i 0 ≡ product (get_or v i 0) (power (8 * (b + 1) * i))
  further zero =
      is.first ∙ was.stretched.entry 0
      ∙ ap (λ (j : ℕ). product (get_or v 0 0) (power j)) (mul-zero (8 * b) ∙ sym (mul-zero (8 * (b + 1))))
  further (suc i) =
      let c : ℕ = get_or v (suc i) 0 in
      let e : 8 * b + 8 ≡ 8 * (b + 1) = omega arith in
      is.next i ∙ ap (λ (z : ℕ). product z (power (8 * suc i))) (was.stretched.entry (suc i))
      ∙ product_assoc c (power (8 * b * suc i)) (power (8 * suc i))
      ∙ ap (product c) (product-power (8 * b * suc i) (8 * suc i) ∙ ap power (sym (add-mul (8 * b) 8 (suc i)) ∙ ap (λ (z : ℕ). z * suc i) e))

  gone : (m : ℕ) → top < m → get_or moved m 0 ≡ 0
  gone zero h = absurd (omega arith)
  gone (suc m) h = is.next m ∙ ap (λ (z : ℕ). product z (power (8 * suc m))) (was.short.above (suc m) h) ∙ zero_product (power (8 * suc m))

  pub finding_more : b < 32 → (m : ℕ) (next : List ℕ)
      → ((l : List ℕ) (f : ℕ → Bool) → ((k : ℕ) → k < 8 → f (8 * b + 1 + k) ≡ (eqb (byte_at w k) first && ltb (8 * b + 1 + k) 255)) → Held l n at → Held (l ++ passing f 8 (8 * b + 1)) m next)
      → Finding v first top m next moved (b + 1)
  finding_more h m next looked =
      let i : 8 * b + 1 + 8 ≡ 8 * (b + 1) + 1 = omega arith in
      let j : 0 + (8 * b + 1) ≡ 8 * b + 1 = omega arith in
      let s : length t ≡ length v = was.stretched.sized in
      let n : length t ≡ 9 = was.short.sized in
      record {
        bytes = was.bytes;
        constant = is.first ∙ was.constant;
        stretched = record { sized = is.sized ∙ sym n ∙ s; entry = further };
        short = record { sized = is.sized; above = gone };
        held =
            subst (λ (l : List ℕ). Held l m next)
            (ap (λ (e : ℕ). passing (inside v) (8 * b + 1) 0 ++ passing (inside v) 8 e) (sym j)
            ∙ sym (passing-append (inside v) (8 * b + 1) 8 0) ∙ ap (λ (e : ℕ). passing (inside v) e 0) i)
            (looked (passing (inside v) (8 * b + 1) 0) (inside v) tried was.held);
      }

-- what is 255 or more is not inside
cut : (f g : ℕ → Bool) (n m : ℕ) → ((k : ℕ) → k < n → f k ≡ g k) → ((k : ℕ) → n ≤ k → f k ≡ false) → passing f (n + m) 0 ≡ passing g n 0
cut f g n m same none =
    let j : 0 + n ≡ n = omega arith in
    passing-append f n m 0
    ∙ ap₂ ◌++◌ (passing-same f g n 0 (λ k l h. same k (omega arith))) (passing-none f m (0 + n) (λ k l b. none k (omega arith)))
    ∙ append-nil (passing g n 0)

within : (v : List ℕ) (k : ℕ) → k < 255 → inside v k ≡ is_root v k
within v k h = go (ltb k 255) refl (is_root v k)
  where
    go : (b : Bool) → ltb k 255 ≡ b → (a : Bool) → (a && b) ≡ a
    go true e true = refl
    go true e false = refl
    go false e a = absurd (omega (arith, ltb-false k 255 e))

outside : (v : List ℕ) (k : ℕ) → 255 ≤ k → inside v k ≡ false
outside v k h = go (ltb k 255) refl (is_root v k)
  where
    go : (b : Bool) → ltb k 255 ≡ b → (a : Bool) → (a && b) ≡ false
    go true e a = absurd (omega (arith, ltb-true k 255 e))
    go false e true = refl
    go false e false = refl

all_roots : (v : List ℕ) → passing (inside v) 257 0 ≡ root_list v
unfolding root_list
all_roots v = cut (inside v) (is_root v) 255 2 (within v) (outside v)

answer : (l : List ℕ) (n : ℕ) (at : List ℕ) → Held l n at → (r : Roots) → r ≡ record { n = length (take 16 l); at = listed (λ k. get_or l k 0) 16 0 } → record { n = n; at = at } ≡ r
answer l n at h r e =
    ap₂ (λ (a : ℕ) (b : List ℕ). record { n = a; at = b }) h.count
    (ext_get_or 0 at (listed (λ k. get_or l k 0) 16 0) (h.sized ∙ sym (length-listed (λ k. get_or l k 0) 16 0))
    (λ k s. let z : length at ≡ 16 = h.sized in h.entry k (omega arith) ∙ sym (get_or-listed_0 (λ j. get_or l j 0) 16 k 0 (omega arith))))
    ∙ sym e

pub finding_end : {v : List ℕ} {first top n : ℕ} {at t : List ℕ} {b : ℕ} → Finding v first top n at t b → b ≡ 32 → ◌≡◌ {A = Roots} (record { n = n; at = at }) (roots_of v)
unfolding roots_of
finding_end {v} {first} {top} {n} {at} {t} {b} was h =
    let e : 8 * b + 1 ≡ 257 = omega arith in
    answer (root_list v) n at (subst (λ (l : List ℕ). Held l n at) (ap (λ (k : ℕ). passing (inside v) k 0) e ∙ all_roots v) was.held) (roots_of v) refl

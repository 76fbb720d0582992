-- p · a + d · b in the eight bytes of a word at once, by Horner's rule over the bits of p and d, the highest first: after each turn the factors are those down to that bit.
-- Assumes nothing.
use mathlib.Core.Path.{◌≡◌, sym, ap, ap₂, subst, ◌∙◌}
use Prim.Native.Nat.{ℕ, zero, suc, ◌+◌, ◌-◌, ◌*◌, ◌/◌, ◌%◌, ◌^◌, ◌≤◌, ◌<◌}
use native.Mathlib.Nat.{div-one}
use native.Mathlib.Omega.{arith}
use mir.Syntax.{w64}
use mir.Val.{Fits}
use lib.Dec.{eqb, eqb→eq}
use lib.Bits.{bit_xor, bit_and, xor_shifted}
use lib.Pow.{shr-shr, shr_le}
use Rattle.ground.specs.Bits.{sum, keep}
use Rattle.ground.proofs.Sums.{zero_sum, sum_assoc, sum_lt, keep_lt, swap4}
use Rattle.ground.proofs.Sweep.{below}
use Rattle.words.specs.Words.{byte_at}
use Rattle.field.specs.Field.{product, carryless, reduce}
use Rattle.field.specs.Words.{Doubled}
use Rattle.field.proofs.Laws.{product_assoc, product_one, zero_product, product-sum-left, product-sum-right}
use Rattle.field.proofs.InWords.{byte_small, byte_zero, byte-sum, masked, byte-keep}
use Rattle.errata.specs.InnerNull.{Blended, AddedUp}

-- ---- a word, by a bit

pub mask_fits : {c : ℕ} → c < 2 → Fits w64 (c * 0xFFFFFFFFFFFFFFFF)
mask_fits {c = zero} h = record { fits = omega arith }
mask_fits {c = suc zero} h = record { fits = omega arith }
mask_fits {c = suc (suc c)} h = absurd (omega arith)

pub added_up : (w a b c d twice : ℕ) → c < 2 → d < 2 → a < 2 ^ 64 → b < 2 ^ 64 → Doubled w twice
    → AddedUp w a b c d (bit_xor (bit_xor twice (bit_and (c * 0xFFFFFFFFFFFFFFFF) a)) (bit_and (d * 0xFFFFFFFFFFFFFFFF) b))
unfolding sum
added_up w a b c d twice hc hd ha hb doubled =
    rw (masked 64 c a hc ha, masked 64 d b hd hb)
    (record {
      word = sum_lt 64 (sum twice (keep c a)) (keep d b) (sum_lt 64 twice (keep c a) doubled.word (keep_lt 64 c a ha)) (keep_lt 64 d b hb);
      entry =
          λ k h. byte-sum (bit_xor twice (keep c a)) (keep d b) k
          ∙ ap₂ sum (byte-sum twice (keep c a) k ∙ ap₂ sum (doubled.entry k h) (byte-keep c a k)) (byte-keep d b k)
          ∙ sum_assoc (product 2 (byte_at w k)) (keep c (byte_at a k)) (keep d (byte_at b k));
    })

-- ---- one bit more of a factor

keep-product : (c y : ℕ) → c < 2 → y < 256 → keep c y ≡ product c y
keep-product zero y h b = sym (zero_product y)
keep-product (suc zero) y h b = sym (product_one y b)
keep-product (suc (suc c)) y h b = absurd (omega arith)

twice : (x : ℕ) → x < 128 → product 2 x ≡ x * 2
unfolding product carryless reduce sum
twice x h = eqb→eq (product 2 x) (x * 2) (below (λ (k : ℕ). eqb (product 2 k) (k * 2)) 128 tt x h)

next_bit : (x c y : ℕ) → x < 128 → c < 2 → y < 256 → sum (product 2 (product x y)) (keep c y) ≡ product (x * 2 + c) y
unfolding sum
next_bit x c y h hc hy =
    ap₂ sum (sym (product_assoc 2 x y) ∙ ap (λ (z : ℕ). product z y) (twice x h)) (keep-product c y hc hy)
    ∙ sym (product-sum-left (x * 2) c y) ∙ ap (λ (z : ℕ). product z y) (xor_shifted x 1 c hc)

-- the bits of a factor down to bit i
down : (p i : ℕ) → p / 2 ^ (i + 1) * 2 + p / 2 ^ i % 2 ≡ p / 2 ^ i
down p i = let e : p / 2 ^ i / 2 ≡ p / 2 ^ (i + 1) = shr-shr p i 1 in omega arith

half : (p i : ℕ) → p < 256 → p / 2 ^ (i + 1) < 128
half p i h = let e : p / 2 ^ i / 2 ≡ p / 2 ^ (i + 1) = shr-shr p i 1 in omega (arith, shr_le p i)

-- ---- the turns

module _ (p d a b : ℕ) (hp : p < 256) (hd : d < 256) where
  pub blended_start : Blended (p / 2 ^ 8) (d / 2 ^ 8) a b 0
  blended_start =
      let e : p / 2 ^ 8 ≡ 0 = omega arith in
      let f : d / 2 ^ 8 ≡ 0 = omega arith in
      rw (e, f)
      (record {
        word = omega arith;
        entry = λ k h. byte_zero k ∙ sym (ap₂ sum (zero_product (byte_at a k)) (zero_product (byte_at b k)) ∙ zero_sum 0);
      })

  step : (i : ℕ) {w r : ℕ} → Blended (p / 2 ^ (i + 1)) (d / 2 ^ (i + 1)) a b w → AddedUp w a b (p / 2 ^ i % 2) (d / 2 ^ i % 2) r → Blended (p / 2 ^ i) (d / 2 ^ i) a b r
  step i {w} {r} blended added =
      record {
        word = added.word;
        entry =
            λ k h.
            let x : ℕ = byte_at a k in
            let y : ℕ = byte_at b k in
            let hx : x < 256 = byte_small a k in
            let hy : y < 256 = byte_small b k in
            let lp : p / 2 ^ i % 2 < 2 = omega arith in
            let ld : d / 2 ^ i % 2 < 2 = omega arith in
            added.entry k h
            ∙ ap (λ (z : ℕ). sum z (sum (keep (p / 2 ^ i % 2) x) (keep (d / 2 ^ i % 2) y)))
            (ap (product 2) (blended.entry k h) ∙ product-sum-right 2 (product (p / 2 ^ (i + 1)) x) (product (d / 2 ^ (i + 1)) y))
            ∙ swap4 (product 2 (product (p / 2 ^ (i + 1)) x)) (product 2 (product (d / 2 ^ (i + 1)) y)) (keep (p / 2 ^ i % 2) x) (keep (d / 2 ^ i % 2) y)
            ∙ ap₂ sum
            (next_bit (p / 2 ^ (i + 1)) (p / 2 ^ i % 2) x (half p i hp) lp hx ∙ ap (λ (z : ℕ). product z x) (down p i))
            (next_bit (d / 2 ^ (i + 1)) (d / 2 ^ i % 2) y (half d i hd) ld hy ∙ ap (λ (z : ℕ). product z y) (down d i));
      }

  pub blended_more : (n : ℕ) {w r : ℕ} → 0 < n → Blended (p / 2 ^ n) (d / 2 ^ n) a b w → AddedUp w a b (p / 2 ^ (n - 1) % 2) (d / 2 ^ (n - 1) % 2) r
      → Blended (p / 2 ^ (n - 1)) (d / 2 ^ (n - 1)) a b r
  blended_more n {w} {r} h blended =
      let e : n ≡ n - 1 + 1 = omega arith in
      step (n - 1) (subst (λ (m : ℕ). Blended (p / 2 ^ m) (d / 2 ^ m) a b w) e blended)

pub blended_end : {p d a b r : ℕ} (x y n : ℕ) → x ≡ p → y ≡ d → n ≤ 0 → Blended (x / 2 ^ n) (y / 2 ^ n) a b r → Blended p d a b r
blended_end {p} {d} {a} {b} {r} x y n e f h blended =
    let z : n ≡ 0 = omega arith in
    let g : x / 2 ^ n ≡ p = ap (λ (m : ℕ). x / 2 ^ m) z ∙ div-one x ∙ e in
    let k : y / 2 ^ n ≡ d = ap (λ (m : ℕ). y / 2 ^ m) z ∙ div-one y ∙ f in
    subst (λ (m : ℕ). Blended p m a b r) k (subst (λ (m : ℕ). Blended m (y / 2 ^ n) a b r) g blended)

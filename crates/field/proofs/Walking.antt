-- A product by repeated doubling, in each byte of a word (document 01, section 3): what is added so far, and what is left by Horner's rule, give the product at every step.
-- Assumes nothing.
use mathlib.Core.Path.{◌≡◌, refl, sym, ap, ap₂, subst, ◌∙◌}
use mathlib.Core.Logic.{⊎_elim}
use Prim.Native.Nat.{ℕ, zero, suc, ◌+◌, ◌-◌, ◌/◌, ◌%◌, ◌^◌, ◌<◌, ◌≤◌}
use native.Mathlib.Nat.{div-one, mod-eq_of_lt}
use native.Mathlib.Omega.{arith}
use lib.Dec.{lit<}
use lib.Pow.{shr-shr}
use Rattle.std.proofs.lemmas.Bool.{cases_lt}
use Rattle.ground.specs.Bits.{sum, keep}
use Rattle.ground.proofs.Sums.{sum_zero, zero_sum, sum_assoc}
use Rattle.words.specs.Words.{byte_at}
use Rattle.field.specs.declared.Sixteen.{Sixteen}
use Rattle.field.specs.Field.{product, Inverse}
use Rattle.field.specs.Words.{Doubled, entry, Products, Inverses}
use Rattle.field.specs.InnerWords.{Taken}
use Rattle.field.proofs.Horner.{double, double_zero, double_sum, horner}
use Rattle.field.proofs.Bridge.{product_horner}
use Rattle.field.proofs.Product.{product-two}
use Rattle.field.proofs.Laws.{product_comm}
use Rattle.field.proofs.InWords.{byte_small, byte_zero, byte-alone, entry-low, entry-high}

-- ---- one byte

keep_double : (e b : ℕ) → double (keep e b) ≡ keep e (double b)
keep_double zero b = double_zero
keep_double (suc e) b = refl

pub horner_doubled : (n a b : ℕ) → horner n a (double b) ≡ double (horner n a b)
unfolding horner
horner_doubled zero a b = sym double_zero
horner_doubled (suc n) a b =
    ap₂ sum (sym (keep_double (a % 2) b)) (ap double (horner_doubled n (a / 2) b)) ∙ sym (double_sum (keep (a % 2) b) (double (horner n (a / 2) b)))

horner_none : (a b : ℕ) → horner 0 a b ≡ 0
unfolding horner
horner_none a b = refl

horner_suc : (n a b : ℕ) → horner (suc n) a b ≡ sum (keep (a % 2) b) (horner n (a / 2) (double b))
unfolding horner
horner_suc n a b = ap (sum (keep (a % 2) b)) (sym (horner_doubled n (a / 2) b))

-- ---- each byte of a word

-- s is what is added after i steps, x is the factor a doubled i times
pub record Adding (a b x s i : ℕ) : Type 0 where
  pub word : s < 2 ^ 64
  pub left : (k : ℕ) → k < 8 → sum (byte_at s k) (horner (8 - i) (byte_at b k / 2 ^ i) (byte_at x k)) ≡ product (byte_at a k) (byte_at b k)

pub adding_start : (a b : ℕ) → Adding a b a 0 0
adding_start a b =
    record {
      word = lit< tt;
      left =
          λ k h.
          ap₂ (λ (y z : ℕ). sum y (horner 8 z (byte_at a k))) (byte_zero k) (div-one (byte_at b k))
          ∙ zero_sum (horner 8 (byte_at b k) (byte_at a k))
          ∙ ap₂ (λ (y z : ℕ). horner 8 y z) (sym (mod-eq_of_lt (byte_small b k))) (sym (mod-eq_of_lt (byte_small a k)))
          ∙ sym (product_horner (byte_at b k) (byte_at a k))
          ∙ product_comm (byte_at b k) (byte_at a k);
    }

pub adding_step : {a b x s i : ℕ} → Adding a b x s i → i < 8 → (s' x' : ℕ) → Taken s x b i s' → Doubled x x' → Adding a b x' s' (i + 1)
adding_step {a} {b} {x} {s} {i} so l s' x' taken doubled =
    record { word = taken.word; left = λ k h. left_step k h }
  where
    left_step : (k : ℕ) → k < 8 → sum (byte_at s' k) (horner (8 - (i + 1)) (byte_at b k / 2 ^ (i + 1)) (byte_at x' k)) ≡ product (byte_at a k) (byte_at b k)
    left_step k h =
        let n : ℕ = 8 - (i + 1) in
        let m : 8 - i ≡ suc n = omega arith in
        let y : ℕ = byte_at b k / 2 ^ i in
        ap₂ (λ (p q : ℕ). sum p (horner n q (byte_at x' k))) (taken.entry k h) (sym (shr-shr (byte_at b k) i 1))
        ∙ ap (λ (z : ℕ). sum (sum (byte_at s k) (keep (y % 2) (byte_at x k))) (horner n (y / 2) z)) (doubled.entry k h ∙ product-two (byte_at x k) (byte_small x k))
        ∙ sum_assoc (byte_at s k) (keep (y % 2) (byte_at x k)) (horner n (y / 2) (double (byte_at x k)))
        ∙ ap (sum (byte_at s k)) (sym (horner_suc n y (byte_at x k)))
        ∙ ap (λ (z : ℕ). sum (byte_at s k) (horner z y (byte_at x k))) (sym m)
        ∙ so.left k h

pub adding_end : {a b x s i : ℕ} → Adding a b x s i → 8 ≤ i → (k : ℕ) → k < 8 → byte_at s k ≡ product (byte_at a k) (byte_at b k)
adding_end {a} {b} {x} {s} {i} so l k h =
    let n : 8 - i ≡ 0 = omega arith in
    sym (sum_zero (byte_at s k))
    ∙ ap (sum (byte_at s k)) (sym (horner_none (byte_at b k / 2 ^ i) (byte_at x k)))
    ∙ ap (λ (m : ℕ). sum (byte_at s k) (horner m (byte_at b k / 2 ^ i) (byte_at x k))) (sym n)
    ∙ so.left k h

-- ---- two words

-- from the products in each
pub both_words : (a b r : Sixteen) → r.low < 2 ^ 64 → r.high < 2 ^ 64
    → ((k : ℕ) → k < 8 → byte_at r.low k ≡ product (byte_at a.low k) (byte_at b.low k))
    → ((k : ℕ) → k < 8 → byte_at r.high k ≡ product (byte_at a.high k) (byte_at b.high k))
    → Products a b r
both_words a b r hl hh low high =
    record {
      words = record { low = hl; high = hh };
      entry =
          λ k h.
          ⊎_elim
          (λ (l : k < 8). entry-low r k l ∙ low k l ∙ ap₂ product (sym (entry-low a k l)) (sym (entry-low b k l)))
          (λ (l : 8 ≤ k). entry-high r k l ∙ high (k - 8) (omega arith) ∙ ap₂ product (sym (entry-high a k l)) (sym (entry-high b k l)))
          (cases_lt k 8);
    }

-- ---- the first of sixteen

first : (x : Sixteen) (b : ℕ) → x.low ≡ b → b < 256 → entry x 0 ≡ b
first x b e h = entry-low x 0 (lit< tt) ∙ ap (λ (w : ℕ). byte_at w 0) e ∙ byte-alone b h

pub first-product : (a b r : Sixteen) (x y z : ℕ) → Products a b r → a.low ≡ x → x < 256 → b.low ≡ y → y < 256 → z ≡ byte_at r.low 0 → z ≡ product x y
first-product a b r x y z is ex hx ey hy ez =
    ez ∙ sym (entry-low r 0 (lit< tt)) ∙ is.entry 0 (lit< tt) ∙ ap₂ product (first a x ex hx) (first b y ey hy)

pub first_inverse : (a r : Sixteen) (x z : ℕ) → Inverses a r → a.low ≡ x → x < 256 → z ≡ byte_at r.low 0 → Inverse x z
first_inverse a r x z is ex hx ez =
    subst (λ (u : ℕ). Inverse u z) (first a x ex hx)
    (subst (λ (u : ℕ). Inverse (entry a 0) u) (sym (ez ∙ sym (entry-low r 0 (lit< tt)))) (is.entry 0 (lit< tt)))

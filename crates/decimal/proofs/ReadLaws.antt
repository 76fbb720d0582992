-- The steps of the loop that reads a number: its bytes are counted first, then taken one after the other.
-- Assumes nothing.
use mathlib.Core.Path.{◌≡◌, refl, sym, ap, ◌∙◌}
use mathlib.Core.Bool.{Bool, true, false, not, ◌&&◌, ◌||◌, and-true}
use mathlib.Core.List.{List, [], ◌∷◌}
use Prim.Native.Nat.{ℕ, ◌+◌, ◌-◌, ◌*◌, ◌^◌, ◌≤◌, ◌<◌}
use native.Mathlib.Nat.{pow-suc, pow-le-pow_right}
use native.Mathlib.Numerals.{add-one}
use native.Mathlib.Omega.{arith}
use borrow.Author.Tests.{le-leb, lt-leb, leb-true, eq-eqb, ne_eqb}
use lib.Dec.{leb, eqb}
use lib.ListN.{length, get_or, drop, drop_of_length-le}
use lib.Seq.{drop-cons}
use Rattle.std.proofs.lemmas.Bool.{and_parts}
use Rattle.ground.specs.Ranges.{between, is_digit}
use Rattle.decimal.specs.Decimal.{all_digits, is_number, value_from, number_in}
use Rattle.decimal.proofs.DigitLaws.{digit_yes}
use Rattle.decimal.proofs.NumberLaws.{number-value, number-none}

-- ---- counting
module _ (v : List ℕ) where
  pub counted_none : length v ≡ 0 → false ≡ (between 1 8 (length v) && (eqb (length v) 1 || not (eqb (get_or v 0 0) 48)))
  counted_none e = rw (lt-leb 1 (length v) (omega arith))

  pub counted-long : 8 < length v → false ≡ (between 1 8 (length v) && (eqb (length v) 1 || not (eqb (get_or v 0 0) 48)))
  counted-long h = rw (le-leb 1 (length v) (omega arith), lt-leb (length v) 8 h)

  pub counted_one : length v ≡ 1 → true ≡ (between 1 8 (length v) && (eqb (length v) 1 || not (eqb (get_or v 0 0) 48)))
  counted_one e = rw (le-leb 1 (length v) (omega arith), le-leb (length v) 8 (omega arith), eq-eqb (length v) 1 e)

  pub counted-more : 1 < length v → length v ≤ 8 → not (eqb (get_or v 0 0) 48) ≡ (between 1 8 (length v) && (eqb (length v) 1 || not (eqb (get_or v 0 0) 48)))
  counted-more l h = rw (le-leb 1 (length v) (omega arith), le-leb (length v) 8 h, ne_eqb (length v) 1 (λ e. omega arith))

  pub counted_not : (between 1 8 (length v) && (eqb (length v) 1 || not (eqb (get_or v 0 0) 48))) ≡ false → 100000000 ≡ number_in v
  unfolding is_number
  counted_not e = sym (number-none v (apart (between 1 8 (length v)) (all_digits v) (eqb (length v) 1 || not (eqb (get_or v 0 0) 48)) e))
    where
      apart : (a b t : Bool) → (a && t) ≡ false → (a && (b && t)) ≡ false
      apart true true t e = e
      apart true false t e = refl
      apart false b t e = refl

-- ---- reading: what is left of the bytes says what all say
pub record Reading (v : List ℕ) (value i : ℕ) : Type 0 where
  pub counted : (between 1 8 (length v) && (eqb (length v) 1 || not (eqb (get_or v 0 0) 48))) ≡ true
  pub most : length v ≤ 8
  pub every : all_digits (drop i v) ≡ all_digits v
  pub same : value_from value (drop i v) ≡ value_from 0 v
  pub small : value < 10 ^ i

pub reading_begin : (v : List ℕ) → (between 1 8 (length v) && (eqb (length v) 1 || not (eqb (get_or v 0 0) 48))) ≡ true → Reading v 0 0
reading_begin v e =
    let p = and_parts (between 1 8 (length v)) (eqb (length v) 1 || not (eqb (get_or v 0 0) 48)) e in
    let q = and_parts (leb 1 (length v)) (leb (length v) 8) p.0 in
    record { counted = e; most = leb-true (length v) 8 q.1; every = refl; same = refl; small = omega arith }

module _ (v : List ℕ) (value i : ℕ) (r : Reading v value i) where
  -- a number where all are digits
  says : (t : Bool) → all_digits v ≡ t → is_number v ≡ t
  unfolding is_number
  says t e =
      let p = and_parts (between 1 8 (length v)) (eqb (length v) 1 || not (eqb (get_or v 0 0) 48)) r.counted in
      rw (p.0, p.1, e) (and-true t)

  pub reading_end : length v ≤ i → value ≡ number_in v
  reading_end h =
      let d : drop i v ≡ [] = drop_of_length-le v h in
      let a : all_digits v ≡ true = sym r.every ∙ ap all_digits d in
      sym (ap (value_from value) d) ∙ r.same ∙ sym (number-value v (says true a))

  module _ (h : i < length v) where
    pub reading_small : value < 100000000
    reading_small = let m = r.most in omega (arith, r.small, pow-le-pow_right {n = 10} (omega arith) {i = i} {j = 8} (omega arith))

    one_on : drop i v ≡ get_or v i 0 ∷ drop (i + 1) v
    one_on = drop-cons v i 0 h ∙ ap (λ (m : ℕ). get_or v i 0 ∷ drop m v) (sym (add-one i))

    by_test : (t : Bool) → is_digit (get_or v i 0) ≡ t → (t && all_digits (drop (i + 1) v)) ≡ all_digits v
    by_test t e = ap (λ (x : Bool). x && all_digits (drop (i + 1) v)) (sym e) ∙ sym (ap all_digits one_on) ∙ r.every

    pub reading_not : is_digit (get_or v i 0) ≡ false → 100000000 ≡ number_in v
    reading_not e = sym (number-none v (says false (sym (by_test false e))))

    pub reading_more : (b x : ℕ) → b ≡ get_or v i 0 → 48 ≤ b → b ≤ 57 → x ≡ value * 10 + (b - 48) → Reading v x (i + 1)
    reading_more b x e l u f =
        record {
          counted = r.counted;
          most = r.most;
          every = by_test true (digit_yes (get_or v i 0) (omega arith) (omega arith));
          same = ap (λ (y : ℕ). value_from y (drop (i + 1) v)) f ∙ ap (λ (y : ℕ). value_from (value * 10 + (y - 48)) (drop (i + 1) v)) e
              ∙ sym (ap (value_from value) one_on) ∙ r.same;
          small = let s = r.small in omega (arith, pow-suc 10 i, ap (λ (y : ℕ). 10 ^ y) (add-one i));
        }

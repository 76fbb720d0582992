-- The laws that join `number_in` and `digits`: the digits of a number write it, and a value that writes a number is the digits of that number.
-- Assumes nothing.
use mathlib.Core.Path.{◌≡◌, refl, sym, ap, ◌∙◌}
use mathlib.Core.Bool.{Bool, true, false, not, ◌&&◌, ◌||◌, or-true}
use mathlib.Core.Logic.{◌⊎◌, inl, inr, ⊎_elim}
use mathlib.Core.List.{List, [], ◌∷◌, ◌++◌, append-nil, append_assoc}
use Prim.Native.Nat.{ℕ, zero, suc, ◌+◌, ◌-◌, ◌*◌, ◌/◌, ◌%◌, ◌^◌, ◌≤◌, ◌<◌}
use native.Mathlib.Nat.{pow-suc}
use native.Mathlib.Omega.{arith}
use borrow.Author.Tests.{le-leb, leb-true, eq-eqb, ne_eqb, eqb-true, eqb-false, not-true}
use lib.Dec.{leb, eqb}
use lib.ListN.{length, get_or}
use Rattle.std.proofs.lemmas.Bool.{and_parts, cases_lt}
use Rattle.ground.specs.Ranges.{between, is_digit}
use Rattle.decimal.specs.Decimal.{all_digits, is_number, value_from, number_in, digits_by, digits}
use Rattle.decimal.proofs.DigitLaws.{by_one, by_more, digit_range, digits_long, digits-some, digits-all, digits-first}

-- ---- a number by its parts
pub record Number (v : List ℕ) : Type 0 where
  pub some : 1 ≤ length v
  pub most : length v ≤ 8
  pub every : all_digits v ≡ true
  pub first : (length v ≡ 1) ⊎ (get_or v 0 0 ≡ 48 → ⊥)

pub number-yes : (v : List ℕ) → Number v → is_number v ≡ true
unfolding is_number
number-yes v n = λ i. (le-leb 1 (length v) n.some i && le-leb (length v) 8 n.most i) && (n.every i && by n.first i)
  where
    by : (length v ≡ 1) ⊎ (get_or v 0 0 ≡ 48 → ⊥) → (eqb (length v) 1 || not (eqb (get_or v 0 0) 48)) ≡ true
    by (inl e) = rw (eq-eqb (length v) 1 e)
    by (inr d) = rw (ne_eqb (get_or v 0 0) 48 d) (or-true (eqb (length v) 1))

pub number-parts : (v : List ℕ) → is_number v ≡ true → Number v
unfolding is_number
number-parts v e =
    let p = and_parts (between 1 8 (length v)) (all_digits v && (eqb (length v) 1 || not (eqb (get_or v 0 0) 48))) e in
    let q = and_parts (leb 1 (length v)) (leb (length v) 8) p.0 in
    let r = and_parts (all_digits v) (eqb (length v) 1 || not (eqb (get_or v 0 0) 48)) p.1 in
    record { some = leb-true 1 (length v) q.0; most = leb-true (length v) 8 q.1; every = r.0; first = by (eqb (length v) 1) refl r.1 }
  where
    by : (t : Bool) → eqb (length v) 1 ≡ t → (t || not (eqb (get_or v 0 0) 48)) ≡ true → (length v ≡ 1) ⊎ (get_or v 0 0 ≡ 48 → ⊥)
    by true t e = inl (eqb-true (length v) 1 t)
    by false t e = inr (eqb-false (get_or v 0 0) 48 (not-true (eqb (get_or v 0 0) 48) e))

-- ---- what a value writes
pub number-value : (v : List ℕ) → is_number v ≡ true → number_in v ≡ value_from 0 v
unfolding number_in
number-value v e = rw e

pub number-none : (v : List ℕ) → is_number v ≡ false → number_in v ≡ 100000000
unfolding number_in
number-none v e = rw e

pub number-some : (v : List ℕ) → number_in v < 100000000 → is_number v ≡ true
number-some v h = by (is_number v) refl
  where
    by : (t : Bool) → is_number v ≡ t → t ≡ true
    by true e = refl
    by false e = absurd (omega (arith, number-none v e))

-- ---- the digits of a number write it
value-last : (s : List ℕ) (n b : ℕ) → value_from n (s ++ (b ∷ [])) ≡ value_from n s * 10 + (b - 48)
value-last [] n b = refl
value-last (x ∷ s) n b = value-last s (n * 10 + (x - 48)) b

by_value : (k n : ℕ) → n < 10 ^ k → value_from 0 (digits_by k n) ≡ n
by_value zero n h = omega arith
by_value (suc k) n h = by (by_value k (n / 10) (omega (arith, pow-suc 10 k))) (cases_lt n 10)
  where
    by : value_from 0 (digits_by k (n / 10)) ≡ n / 10 → (n < 10) ⊎ (10 ≤ n) → value_from 0 (digits_by (suc k) n) ≡ n
    by ih (inl s) = omega (arith, ap (value_from 0) (by_one k n s))
    by ih (inr s) = omega (arith, ap (value_from 0) (by_more k n s), value-last (digits_by k (n / 10)) 0 (n % 10 + 48))

pub digits-number-yes : (n : ℕ) → n < 100000000 → is_number (digits n) ≡ true
digits-number-yes n h = number-yes (digits n) (record { some = digits-some n; most = digits_long n; every = digits-all n; first = digits-first n h })

pub number_digits : (n : ℕ) → n < 100000000 → number_in (digits n) ≡ n
unfolding digits
number_digits n h = number-value (digits n) (digits-number-yes n h) ∙ by_value 8 n h

-- ---- and a value is the digits of what it writes

-- of the digits behind those of n, n not 0, the front ones are those of n
by_back : (s : List ℕ) (k n : ℕ) → 1 ≤ n → all_digits s ≡ true → digits_by (length s + k) (value_from n s) ≡ digits_by k n ++ s
by_back [] k n h a =
    let e : 0 + k ≡ k = omega arith in
    ap (λ (x : ℕ). digits_by x n) e ∙ sym (append-nil (digits_by k n))
by_back (b ∷ s) k n h a =
    let p = and_parts (is_digit b) (all_digits s) a in
    let r = digit_range b p.0 in
    let m : suc (length s) + k ≡ length s + suc k = omega arith in
    let x : ℕ = n * 10 + (b - 48) in
    let d : x / 10 ≡ n = omega arith in
    let l : x % 10 + 48 ≡ b = omega arith in
    ap (λ (y : ℕ). digits_by y (value_from x s)) m ∙ by_back s (suc k) x (omega arith) p.1
    ∙ ap (λ (y : List ℕ). y ++ s) (by_more k x (omega arith) ∙ (λ i. digits_by k (d i) ++ (l i ∷ [])))
    ∙ append_assoc (digits_by k n) (b ∷ []) s

by_number : (m : ℕ) (v : List ℕ) → 1 ≤ length v → length v ≤ m → all_digits v ≡ true → (length v ≡ 1) ⊎ (get_or v 0 0 ≡ 48 → ⊥)
    → digits_by m (value_from 0 v) ≡ v
by_number m [] o h a f = absurd (omega arith)
by_number zero (b ∷ s) o h a f = absurd (omega arith)
by_number (suc m) (b ∷ []) o h a f =
    let r = digit_range b (and_parts (is_digit b) true a).0 in
    let e : 0 * 10 + (b - 48) + 48 ≡ b = omega arith in
    by_one m (0 * 10 + (b - 48)) (omega arith) ∙ ap (λ (x : ℕ). x ∷ []) e
by_number (suc m) (b ∷ c ∷ s) o h a (inl f) = absurd (omega arith)
by_number (suc m) (b ∷ c ∷ s) o h a (inr f) =
    let p = and_parts (is_digit b) (all_digits (c ∷ s)) a in
    let r = digit_range b p.0 in
    let x : ℕ = 0 * 10 + (b - 48) in
    let g : 1 ≤ x = ⊎_elim (λ w. omega arith) (λ (w : x ≤ 0). absurd (f (omega arith))) (cases_lt 0 x) in
    let k : ℕ = m - suc (length s) in
    let e : suc m ≡ length (c ∷ s) + suc k = omega arith in
    let z : x + 48 ≡ b = omega arith in
    ap (λ (y : ℕ). digits_by y (value_from x (c ∷ s))) e ∙ by_back (c ∷ s) (suc k) x g p.1
    ∙ ap (λ (y : List ℕ). y ++ (c ∷ s)) (by_one k x (omega arith) ∙ ap (λ (y : ℕ). y ∷ []) z)

pub digits_number : (v : List ℕ) → is_number v ≡ true → digits (number_in v) ≡ v
unfolding digits
digits_number v e =
    let n = number-parts v e in
    ap (digits_by 8) (number-value v e) ∙ by_number 8 v n.some n.most n.every n.first

pub digits_back : (v : List ℕ) → number_in v < 100000000 → digits (number_in v) ≡ v
digits_back v h = digits_number v (number-some v h)

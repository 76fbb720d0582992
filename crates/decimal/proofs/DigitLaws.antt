-- The laws of `digits`: how many there are, that each is a digit of ASCII, and which one stands first. Stated over `digits_by k`, the last k digits.
-- Assumes nothing.
use mathlib.Core.Path.{◌≡◌, refl, sym, ap, ◌∙◌}
use mathlib.Core.Bool.{true, ◌&&◌}
use mathlib.Core.Logic.{◌⊎◌, inl, inr, ⊎_elim}
use mathlib.Core.List.{List, [], ◌∷◌, ◌++◌}
use Prim.Native.Nat.{ℕ, zero, suc, ◌+◌, ◌*◌, ◌/◌, ◌%◌, ◌^◌, ◌≤◌, ◌<◌, min, max}
use native.Mathlib.Nat.{pow-suc, pow-le-pow_right, one-le-pow}
use native.Mathlib.Numerals.{add-one}
use native.Mathlib.Omega.{arith}
use borrow.Author.Tests.{lt-ltb, le-ltb}
use lib.ListN.{length, get_or, length-append, get_or-append}
use Rattle.std.proofs.lemmas.Bool.{and_parts, cases_lt}
use Rattle.ground.proofs.RangeLaws.{between_bounds, bounds_between}
use Rattle.ground.specs.Ranges.{is_digit}
use Rattle.decimal.specs.Decimal.{all_digits, digits_by, digits}

-- ---- one digit, or the digits in front and the last one

pub by_one : (k n : ℕ) → n < 10 → digits_by (suc k) n ≡ (n + 48) ∷ []
by_one k n h = rw (lt-ltb n 10 h)

pub by_more : (k n : ℕ) → 10 ≤ n → digits_by (suc k) n ≡ digits_by k (n / 10) ++ ((n % 10 + 48) ∷ [])
by_more k n h = rw (le-ltb n 10 h)

length_more : (k n : ℕ) → 10 ≤ n → length (digits_by (suc k) n) ≡ length (digits_by k (n / 10)) + 1
length_more k n h = ap length (by_more k n h) ∙ length-append (digits_by k (n / 10)) ((n % 10 + 48) ∷ [])

-- ---- how many

by_long : (k n : ℕ) → length (digits_by k n) ≤ k
by_long zero n = omega arith
by_long (suc k) n = by (by_long k (n / 10)) (cases_lt n 10)
  where
    by : length (digits_by k (n / 10)) ≤ k → (n < 10) ⊎ (10 ≤ n) → length (digits_by (suc k) n) ≤ suc k
    by ih (inl h) = omega (arith, ap length (by_one k n h))
    by ih (inr h) = omega (arith, length_more k n h)

by_some : (k n : ℕ) → 1 ≤ length (digits_by (suc k) n)
by_some k n = ⊎_elim (λ h. omega (arith, ap length (by_one k n h))) (λ h. omega (arith, length_more k n h)) (cases_lt n 10)

pub digits_long : (n : ℕ) → length (digits n) ≤ 8
unfolding digits
digits_long n = by_long 8 n

pub digits-some : (n : ℕ) → 1 ≤ length (digits n)
unfolding digits
digits-some n = by_some 7 n

-- n has suc j digits where 10 ^ j ≤ n < 10 ^ suc j; the last of the counts stands for all longer ones too
by_count : (j k n : ℕ) → (0 < j → 10 ^ j ≤ n) → (j < k → n < 10 ^ suc j) → j ≤ k → length (digits_by (suc k) n) ≡ suc j
by_count zero zero n low high h = omega (arith, by_some 0 n, by_long 1 n)
by_count zero (suc k) n low high h = ap length (by_one (suc k) n (high (omega arith)))
by_count (suc j) zero n low high h = absurd (omega arith)
by_count (suc j) (suc k) n low high h =
    let l : 10 ^ suc j ≤ n = low (omega arith) in
    let p : 1 ≤ 10 ^ j = one-le-pow j 10 (omega arith) in
    let e : 10 ^ suc j ≡ 10 ^ j * 10 = pow-suc 10 j in
    let ih = by_count j k (n / 10) (λ z. omega arith) (λ z. let u = high (omega arith) in omega (arith, pow-suc 10 (suc j))) (omega arith) in
    omega (arith, length_more (suc k) n (omega arith))

digits-count : (j n : ℕ) → (0 < j → 10 ^ j ≤ n) → (j < 7 → n < 10 ^ suc j) → j ≤ 7 → suc j ≡ length (digits n)
unfolding digits
digits-count j n low high h = sym (by_count j 7 n low high h)

-- the logarithm tells it, that of 1 where n is 0
pub digits-log : (n k : ℕ) → 10 ^ k ≤ max n 1 → max n 1 < 10 * 10 ^ k → min k 7 + 1 ≡ length (digits n)
digits-log n k low high = add-one (min k 7) ∙ digits-count (min k 7) n some more (omega arith)
  where
    some : 0 < min k 7 → 10 ^ min k 7 ≤ n
    some z =
        let p : 10 ^ 1 ≤ 10 ^ min k 7 = pow-le-pow_right {n = 10} (omega arith) {i = 1} {j = min k 7} (omega arith) in
        let q : 10 ^ min k 7 ≤ 10 ^ k = pow-le-pow_right {n = 10} (omega arith) {i = min k 7} {j = k} (omega arith) in
        omega arith

    more : min k 7 < 7 → n < 10 ^ suc (min k 7)
    more h =
        let e : min k 7 ≡ k = omega arith in
        omega (arith, pow-suc 10 (min k 7), ap (λ (j : ℕ). 10 ^ j) e)

-- ---- each a digit of ASCII

pub digit_yes : (b : ℕ) → 48 ≤ b → b ≤ 57 → is_digit b ≡ true
digit_yes b l h = bounds_between 48 57 b l h

pub digit_range : (b : ℕ) → is_digit b ≡ true → (48 ≤ b) × (b ≤ 57)
digit_range b e = between_bounds 48 57 b e

all-last : (s : List ℕ) (b : ℕ) → all_digits s ≡ true → is_digit b ≡ true → all_digits (s ++ (b ∷ [])) ≡ true
all-last [] b a e = rw e
all-last (x ∷ s) b a e =
    let p = and_parts (is_digit x) (all_digits s) a in
    λ i. p.0 i && all-last s b p.1 e i

pub all-range : (s : List ℕ) (i : ℕ) → all_digits s ≡ true → i < length s → (48 ≤ get_or s i 0) × (get_or s i 0 ≤ 57)
all-range [] i a h = absurd (omega arith)
all-range (x ∷ s) zero a h = digit_range x (and_parts (is_digit x) (all_digits s) a).0
all-range (x ∷ s) (suc i) a h = all-range s i (and_parts (is_digit x) (all_digits s) a).1 (omega arith)

by_all : (k n : ℕ) → all_digits (digits_by k n) ≡ true
by_all zero n = refl
by_all (suc k) n = by (by_all k (n / 10)) (cases_lt n 10)
  where
    by : all_digits (digits_by k (n / 10)) ≡ true → (n < 10) ⊎ (10 ≤ n) → all_digits (digits_by (suc k) n) ≡ true
    by ih (inl h) = ap all_digits (by_one k n h) ∙ all-last [] (n + 48) refl (digit_yes (n + 48) (omega arith) (omega arith))
    by ih (inr h) = ap all_digits (by_more k n h) ∙ all-last (digits_by k (n / 10)) (n % 10 + 48) ih (digit_yes (n % 10 + 48) (omega arith) (omega arith))

pub digits-all : (n : ℕ) → all_digits (digits n) ≡ true
unfolding digits
digits-all n = by_all 8 n

pub digits-bytes : (n i : ℕ) → i < length (digits n) → 48 ≤ get_or (digits n) i 0
digits-bytes n i h = (all-range (digits n) i (digits-all n) h).0

-- ---- no leading zero

by_first : (k n : ℕ) → 0 < n → n < 10 ^ k → get_or (digits_by k n) 0 0 ≡ 48 → ⊥
by_first zero n z h e = omega arith
by_first (suc k) n z h e = by (by_first k (n / 10)) (cases_lt n 10)
  where
    by : (0 < n / 10 → n / 10 < 10 ^ k → get_or (digits_by k (n / 10)) 0 0 ≡ 48 → ⊥) → (n < 10) ⊎ (10 ≤ n) → ⊥
    by ih (inl s) = omega (arith, ap (λ (l : List ℕ). get_or l 0 0) (by_one k n s))
    by ih (inr s) = ih (omega arith) (omega (arith, pow-suc 10 k)) (sym (front k (omega (arith, pow-suc 10 k))) ∙ e)
      where
        front : (j : ℕ) → n < 10 ^ j * 10 → get_or (digits_by (suc j) n) 0 0 ≡ get_or (digits_by j (n / 10)) 0 0
        front zero b = absurd (omega arith)
        front (suc j) b =
            ap (λ (l : List ℕ). get_or l 0 0) (by_more (suc j) n s)
            ∙ get_or-append (digits_by (suc j) (n / 10)) ((n % 10 + 48) ∷ []) 0 0 (by_some j (n / 10))

-- a single digit, or the first is not 0
pub digits-first : (n : ℕ) → n < 100000000 → (length (digits n) ≡ 1) ⊎ (get_or (digits n) 0 0 ≡ 48 → ⊥)
unfolding digits
digits-first n h = ⊎_elim (λ s. inl (ap length (by_one 7 n s))) (λ s. inr (by_first 8 n (omega arith) h)) (cases_lt n 10)

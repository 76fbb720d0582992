-- A time and its nineteen bytes: a real time written is read again as itself, and bytes that write a real time are what it is written as.
-- Assumes nothing.
use mathlib.Core.Path.{◌≡◌, refl, sym, ap, ◌∙◌}
use mathlib.Core.Logic.{◌⊎◌, inl, inr}
use mathlib.Core.Bool.{Bool, true, false, cond, true≢false, ◌&&◌}
use mathlib.Core.List.{List, [], ◌∷◌, ◌++◌}
use Prim.Native.Nat.{ℕ, zero, suc, ◌+◌, ◌-◌, ◌*◌, ◌/◌, ◌%◌, ◌≤◌, ◌<◌}
use native.Mathlib.Omega.{arith}
use borrow.Author.Tests.{eqb-true}
use lib.Dec.{eqb}
use lib.ListN.{length, get_or}
use Rattle.std.proofs.lemmas.Bool.{and_parts}
use Rattle.ground.specs.Ranges.{is_digit}
use Rattle.ground.specs.Lists.{listed}
use Rattle.ground.proofs.Listed.{listed-whole}
use Rattle.calendar.specs.declared.Time.{Time}
use Rattle.calendar.specs.Calendar.{days_in, real}
use Rattle.calendar.specs.Range.{RealTime}
use Rattle.times.specs.Written.{two, time_text, form, formed, two_at, time_at, wrong_time, time_in}
use Rattle.ground.proofs.Truth.{and_join}
use Rattle.ground.proofs.RangeLaws.{between_bounds, bounds_between}
use Rattle.calendar.proofs.RangeLaws.{days_most, real-range}

-- ---- what is written

pub time_long : (t : Time) → length (time_text t) ≡ 19
unfolding time_text
time_long t = refl

-- every element is at least n
data AtLeast (n : ℕ) : List ℕ → Type 0 where
  none : AtLeast n []
  more : {x : ℕ} {l : List ℕ} → n ≤ x → AtLeast n l → AtLeast n (x ∷ l)

at_least : {n : ℕ} (l : List ℕ) → AtLeast n l → (i : ℕ) → i < length l → n ≤ get_or l i 0
at_least [] none i h = absurd (omega arith)
at_least (x ∷ l) (more b r) zero h = b
at_least (x ∷ l) (more b r) (suc i) h = at_least l r i (omega arith)

two-high : (n : ℕ) {l : List ℕ} → AtLeast 46 l → AtLeast 46 (two n ++ l)
two-high n r =
    let a : 46 ≤ n / 10 % 10 + 48 = omega arith in
    let b : 46 ≤ n % 10 + 48 = omega arith in
    more a (more b r)

sign_high : (s : ℕ) {l : List ℕ} → 46 ≤ s → AtLeast 46 l → AtLeast 46 (s ∷ l)
sign_high s h r = more h r

pub time_bytes : (t : Time) (i : ℕ) → i < 19 → 46 ≤ get_or (time_text t) i 0
unfolding time_text
time_bytes t i h =
    at_least (time_text t)
    (two-high (t.year / 100) (two-high (t.year % 100) (sign_high 46 (omega arith)
    (two-high t.month (sign_high 46 (omega arith) (two-high t.day (sign_high 47 (omega arith)
    (two-high t.hour (sign_high 58 (omega arith) (two-high t.minute (sign_high 58 (omega arith) (two-high t.second none))))))))))))
    i h

-- ---- a time, written and read

digit_is : (n : ℕ) → is_digit (n % 10 + 48) ≡ true
digit_is n = bounds_between 48 57 (n % 10 + 48) (omega arith) (omega arith)

pub text_formed : (t : Time) → formed form (time_text t) ≡ true
unfolding time_text
text_formed t = simp digit_is

two-read : (n : ℕ) → n < 100 → (n / 10 % 10 + 48 - 48) * 10 + (n % 10 + 48 - 48) ≡ n
two-read n h = omega arith

year_read : (n : ℕ) → n ≤ 9999
    → ((n / 100 / 10 % 10 + 48 - 48) * 10 + (n / 100 % 10 + 48 - 48)) * 100 + ((n % 100 / 10 % 10 + 48 - 48) * 10 + (n % 100 % 10 + 48 - 48)) ≡ n
year_read n h =
    let a : (n / 100 / 10 % 10 + 48 - 48) * 10 + (n / 100 % 10 + 48 - 48) ≡ n / 100 = two-read (n / 100) (omega arith) in
    let b : (n % 100 / 10 % 10 + 48 - 48) * 10 + (n % 100 % 10 + 48 - 48) ≡ n % 100 = two-read (n % 100) (omega arith) in
    rw (a, b) (omega arith)

text_at : (t : Time) → RealTime t → time_at (time_text t) ≡ t
unfolding time_text time_at
text_at t r =
    let d : days_in t.year t.month ≤ 31 = days_most t.year t.month in
    λ i. record {
      year = year_read t.year r.year_last i;
      month = two-read t.month (omega arith) i;
      day = two-read t.day (omega arith) i;
      hour = two-read t.hour (omega arith) i;
      minute = two-read t.minute (omega arith) i;
      second = two-read t.second (omega arith) i;
    }

-- what is read from bytes of the form
pub read_real : (v : List ℕ) → formed form v ≡ true → real (time_at v) ≡ true → time_in v ≡ time_at v
unfolding time_in
read_real v f r = ap (λ (b : Bool). cond b (time_at v) wrong_time) (and_join f r)

pub time_written : (t : Time) → real t ≡ true → time_in (time_text t) ≡ t
time_written t e =
    let same = text_at t (real-range t e) in
    read_real (time_text t) (text_formed t) (ap real same ∙ e) ∙ same

-- ---- bytes, read and written

pub formed-long : (fs v : List ℕ) → formed fs v ≡ true → length v ≡ length fs
formed-long [] [] e = refl
formed-long [] (b ∷ v) e = absurd (true≢false (sym e))
formed-long (f ∷ fs) [] e = absurd (true≢false (sym e))
formed-long (f ∷ fs) (b ∷ v) e = ap suc (formed-long fs v (and_parts (cond (eqb f 0) (is_digit b) (eqb b f)) _ e).1)

formed-at : (fs v : List ℕ) → formed fs v ≡ true → (i : ℕ) → i < length fs
    → cond (eqb (get_or fs i 0) 0) (is_digit (get_or v i 0)) (eqb (get_or v i 0) (get_or fs i 0)) ≡ true
formed-at [] [] e i h = absurd (omega arith)
formed-at [] (b ∷ v) e i h = absurd (omega arith)
formed-at (f ∷ fs) [] e i h = absurd (true≢false (sym e))
formed-at (f ∷ fs) (b ∷ v) e zero h = (and_parts (cond (eqb f 0) (is_digit b) (eqb b f)) _ e).0
formed-at (f ∷ fs) (b ∷ v) e (suc i) h = formed-at fs v (and_parts (cond (eqb f 0) (is_digit b) (eqb b f)) _ e).1 i (omega arith)

two_back : (a b : ℕ) → is_digit a ≡ true → is_digit b ≡ true → two ((a - 48) * 10 + (b - 48)) ≡ a ∷ b ∷ []
two_back a b d e =
    let p = between_bounds 48 57 a d in
    let q = between_bounds 48 57 b e in
    let x : ((a - 48) * 10 + (b - 48)) / 10 % 10 + 48 ≡ a = omega arith in
    let y : ((a - 48) * 10 + (b - 48)) % 10 + 48 ≡ b = omega arith in
    λ i. x i ∷ y i ∷ []

two_small : (a b : ℕ) → is_digit a ≡ true → is_digit b ≡ true → (a - 48) * 10 + (b - 48) < 100
two_small a b d e =
    let p = between_bounds 48 57 a d in
    let q = between_bounds 48 57 b e in
    omega arith

high_back : (m n : ℕ) → n < 100 → (m * 100 + n) / 100 ≡ m
high_back m n h = omega arith

low_back : (m n : ℕ) → n < 100 → (m * 100 + n) % 100 ≡ n
low_back m n h = omega arith

module _ (v : List ℕ) (f : formed form v ≡ true) where
  -- the two digits at i, written again
  pair_back : (i : ℕ) → is_digit (get_or v i 0) ≡ true → is_digit (get_or v (i + 1) 0) ≡ true → two (two_at v i) ≡ get_or v i 0 ∷ get_or v (i + 1) 0 ∷ []
  pair_back i d e = two_back (get_or v i 0) (get_or v (i + 1) 0) d e

  sign_back : (i s : ℕ) → eqb (get_or v i 0) s ≡ true → s ≡ get_or v i 0
  sign_back i s e = sym (eqb-true (get_or v i 0) s e)

  at : (i : ℕ) → i < 19 → cond (eqb (get_or form i 0) 0) (is_digit (get_or v i 0)) (eqb (get_or v i 0) (get_or form i 0)) ≡ true
  at i h = formed-at form v f i h

  pub form_back : time_text (time_at v) ≡ v
  unfolding time_text time_at
  form_back =
      let s = two_small (get_or v 2 0) (get_or v 3 0) (at 2 (omega arith)) (at 3 (omega arith)) in
      let c = ap two (high_back (two_at v 0) (two_at v 2) s) ∙ pair_back 0 (at 0 (omega arith)) (at 1 (omega arith)) in
      let y = ap two (low_back (two_at v 0) (two_at v 2) s) ∙ pair_back 2 (at 2 (omega arith)) (at 3 (omega arith)) in
      let m = pair_back 5 (at 5 (omega arith)) (at 6 (omega arith)) in
      let d = pair_back 8 (at 8 (omega arith)) (at 9 (omega arith)) in
      let h = pair_back 11 (at 11 (omega arith)) (at 12 (omega arith)) in
      let n = pair_back 14 (at 14 (omega arith)) (at 15 (omega arith)) in
      let e = pair_back 17 (at 17 (omega arith)) (at 18 (omega arith)) in
      let s4 = sign_back 4 46 (at 4 (omega arith)) in
      let s7 = sign_back 7 46 (at 7 (omega arith)) in
      let s10 = sign_back 10 47 (at 10 (omega arith)) in
      let s13 = sign_back 13 58 (at 13 (omega arith)) in
      let s16 = sign_back 16 58 (at 16 (omega arith)) in
      let w : time_text (time_at v) ≡ listed (λ k. get_or v k 0) 19 0 =
      λ i. c i ++ (y i ++ (s4 i ∷ (m i ++ (s7 i ∷ (d i ++ (s10 i ∷ (h i ++ (s13 i ∷ (n i ++ (s16 i ∷ e i)))))))))) in
      w ∙ ap (λ (n : ℕ). listed (λ k. get_or v k 0) n 0) (sym (formed-long form v f)) ∙ listed-whole v 0

pub wrong_not_real : real wrong_time ≡ false
unfolding real
wrong_not_real = refl

-- a value writes a real time, or none
data Reading (v : List ℕ) : Time → Type 0 where
  written : formed form v ≡ true → real (time_at v) ≡ true → Reading v (time_at v)
  wrong : Reading v wrong_time

reading : (v : List ℕ) → Reading v (time_in v)
unfolding time_in
reading v = by (formed form v && real (time_at v)) refl
  where
    by : (b : Bool) → (formed form v && real (time_at v)) ≡ b → Reading v (cond b (time_at v) wrong_time)
    by true e = let w = and_parts (formed form v) (real (time_at v)) e in written w.0 w.1
    by false e = wrong

pub written_time : (v : List ℕ) → real (time_in v) ≡ true → time_text (time_in v) ≡ v
written_time v r = by (time_in v) (reading v) r
  where
    by : (t : Time) → Reading v t → real t ≡ true → time_text t ≡ v
    by _ (written f e) r = form_back v f
    by _ wrong r = absurd (true≢false (sym r ∙ wrong_not_real))

pub time_real : (v : List ℕ) → (time_in v ≡ wrong_time) ⊎ (real (time_in v) ≡ true)
time_real v = by (time_in v) (reading v)
  where
    by : (t : Time) → Reading v t → (t ≡ wrong_time) ⊎ (real t ≡ true)
    by _ (written f e) = inr e
    by _ wrong = inl refl

-- What the reader's small functions answer, over plain variables: values that may be empty, labels.
-- Assumes nothing.
use mathlib.Core.Path.{◌≡◌, sym, ap, ◌∙◌}
use mathlib.Core.Bool.{Bool, true, false, cond}
use mathlib.Core.List.{List}
use Prim.Native.Nat.{ℕ, ◌+◌, ◌-◌, ◌<◌, ◌≤◌}
use native.Mathlib.Omega.{arith}
use borrow.Author.Tests.{eq-eqb, ne_eqb}
use lib.Dec.{eqb}
use lib.ListN.{length, take, drop, length-drop}
use lib.Seq.{length-take-le, take_all}
use Rattle.slices.specs.Slices.{same}
use Rattle.slices.proofs.SameLaws.{same_lengths}
use Rattle.decimal.specs.Decimal.{number_in, no_number}
use Rattle.times.specs.Written.{time_in}
use Rattle.calendar.specs.Calendar.{no_time}
use Rattle.attributes.specs.Lines.{label}
use Rattle.attributes.specs.Describe.{optional_in, given_time}

-- a part from a to a + n
pub part_is : (t : List ℕ) (a n : ℕ) → take (a + n - a) (drop a t) ≡ take n (drop a t)
part_is t a n = let e : a + n - a ≡ n = omega arith in ap (λ (x : ℕ). take x (drop a t)) e

pub rest_is : (t : List ℕ) (a : ℕ) → take (length t - a) (drop a t) ≡ drop a t
rest_is t a = take_all (length t - a) (drop a t) (omega (arith, length-drop a t))

-- ---- values that may be empty

module _ (t : List ℕ) (a n : ℕ) where
  abbrev v : List ℕ
  v = take n (drop a t)

  none-there : n ≡ 0 → eqb (length v) 0 ≡ true
  none-there e = ap (λ (x : ℕ). eqb (length (take x (drop a t))) 0) e

  some-there : a + n ≤ length t → (n ≡ 0 → ⊥) → eqb (length v) 0 ≡ false
  some-there h d =
      let l : length v ≡ n = length-take-le n (drop a t) (omega (arith, length-drop a t)) in
      ne_eqb (length v) 0 (λ e. d (sym l ∙ e))

  pub time_none : n ≡ 0 → no_time ≡ given_time v
  unfolding given_time
  time_none e = sym (ap (λ (c : Bool). cond c no_time (time_in v)) (none-there e))

  pub time_some : a + n ≤ length t → (n ≡ 0 → ⊥) → time_in v ≡ given_time v
  unfolding given_time
  time_some h d = sym (ap (λ (c : Bool). cond c no_time (time_in v)) (some-there h d))

  module _ (none : ℕ) where
    pub optional_none : n ≡ 0 → none ≡ optional_in none v
    unfolding optional_in
    optional_none e = sym (ap (λ (c : Bool). cond c none (cond (eqb (number_in v) none) no_number (number_in v))) (none-there e))

    module _ (h : a + n ≤ length t) (d : n ≡ 0 → ⊥) (r : ℕ) (e : r ≡ number_in v) where
      is_read : optional_in none v ≡ cond (eqb r none) no_number r
      unfolding optional_in
      is_read =
          ap (λ (c : Bool). cond c none (cond (eqb (number_in v) none) no_number (number_in v))) (some-there h d)
          ∙ ap (λ (x : ℕ). cond (eqb x none) no_number x) (sym e)

      pub optional_fault : r ≡ none → no_number ≡ optional_in none v
      optional_fault f = sym (is_read ∙ ap (λ (c : Bool). cond c no_number r) (eq-eqb r none f))

      pub optional_some : (r ≡ none → ⊥) → r ≡ optional_in none v
      optional_some f = sym (is_read ∙ ap (λ (c : Bool). cond c no_number r) (ne_eqb r none f))

-- ---- labels

-- too few bytes
pub label-short : (t : List ℕ) (k at : ℕ) → at ≤ length t → length t - at < 3 → false ≡ same (take 3 (drop at t)) (label k)
label-short t k at h l =
    let e : take 3 (drop at t) ≡ drop at t = take_all 3 (drop at t) (omega (arith, length-drop at t)) in
    same_lengths (take 3 (drop at t)) (label k) (λ f. omega (arith, sym (ap length e) ∙ f, length-drop at t))

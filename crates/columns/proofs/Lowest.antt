-- The lowest number at which a test passes, as a loop looks for it: what the numbers from k on say is what all say.
-- Assumes nothing.
use mathlib.Core.Path.{◌≡◌, refl, sym, ap, ◌∙◌}
use mathlib.Core.Bool.{Bool, true, false, cond, not, ◌&&◌}
use Prim.Native.Nat.{ℕ, zero, suc, ◌+◌, ◌-◌, ◌<◌, ◌≤◌}
use native.Mathlib.Omega.{arith}
use Rattle.ground.proofs.Truth.{differ}
use Rattle.places.specs.Room.{lowest_from}
use Rattle.columns.specs.InnerJudge.{is_nothing}
use Rattle.std.specs.Prelude.{Option}
use Rattle.std.specs.Prelude.{Some, None}

-- those from k on, of n
abbrev pub lowest_left : (ℕ → Bool) → ℕ → ℕ → Option ℕ
lowest_left f n k = lowest_from f k (n - k)

module _ (f : ℕ → Bool) where
  -- ---- one number after the other

  pub left-first : (n : ℕ) → lowest_left f n 0 ≡ lowest_from f 0 n
  left-first n = let e : n - 0 ≡ n = omega arith in ap (lowest_from f 0) e

  pub left_end : (n k : ℕ) → n ≤ k → lowest_left f n k ≡ None
  unfolding lowest_from
  left_end n k h = let e : n - k ≡ 0 = omega arith in ap (lowest_from f k) e

  left_step : (n k : ℕ) → k < n → lowest_left f n k ≡ cond (f k) (Some k) (lowest_left f n (k + 1))
  unfolding lowest_from
  left_step n k h =
      let e : n - k ≡ suc (n - (k + 1)) = omega arith in
      let d : suc k ≡ k + 1 = omega arith in
      ap (lowest_from f k) e ∙ ap (λ (i : ℕ). cond (f k) (Some k) (lowest_from f i (n - (k + 1)))) d

  pub left_here : (n k : ℕ) → k < n → f k ≡ true → lowest_left f n k ≡ Some k
  left_here n k h t = left_step n k h ∙ ap (λ (b : Bool). cond b (Some k) (lowest_left f n (k + 1))) t

  pub left-next : (n k : ℕ) → k < n → f k ≡ false → lowest_left f n k ≡ lowest_left f n (k + 1)
  left-next n k h t = left_step n k h ∙ ap (λ (b : Bool). cond b (Some k) (lowest_left f n (k + 1))) t

  -- whether there is none
  pub none-next : (n k : ℕ) → k < n → is_nothing (lowest_left f n k) ≡ (not (f k) && is_nothing (lowest_left f n (k + 1)))
  none-next n k h = ap is_nothing (left_step n k h) ∙ by (f k)
    where
      by : (b : Bool) → is_nothing (cond b (Some k) (lowest_left f n (k + 1))) ≡ (not b && is_nothing (lowest_left f n (k + 1)))
      by true = refl
      by false = refl

  -- ---- all of them

  -- what is found is one of them
  pub found_below : (s n i : ℕ) → lowest_from f s n ≡ Some i → i < s + n
  unfolding lowest_from
  found_below s zero i e = let z : ◌≡◌ {A = ℕ} 0 1 = cc in absurd (omega arith)
  found_below s (suc n) i e = by (f s) (found_below (suc s) n i) e
    where
      by : (b : Bool) → (lowest_from f (suc s) n ≡ Some i → i < suc s + n) → cond b (Some s) (lowest_from f (suc s) n) ≡ Some i → i < s + suc n
      by true ih e = let z : s ≡ i = cc in omega arith
      by false ih e = omega (arith, ih e)

  none_from : (s n : ℕ) → is_nothing (lowest_from f s n) ≡ true → (k : ℕ) → k < n → f (s + k) ≡ false
  unfolding lowest_from
  none_from s zero e k h = absurd (omega arith)
  none_from s (suc n) e k h = by (f s) refl (none_from (suc s) n) e k h
    where
      by : (b : Bool) → f s ≡ b → (is_nothing (lowest_from f (suc s) n) ≡ true → (k : ℕ) → k < n → f (suc s + k) ≡ false)
          → is_nothing (cond b (Some s) (lowest_from f (suc s) n)) ≡ true → (k : ℕ) → k < suc n → f (s + k) ≡ false
      by true t ih e k h = differ (sym e)
      by false t ih e zero h = let z : s + 0 ≡ s = omega arith in ap f z ∙ t
      by false t ih e (suc k) h = let z : s + suc k ≡ suc s + k = omega arith in ap f z ∙ ih e k (omega arith)

  -- where none is found, none passes; and the other way round
  pub none_passes : (n : ℕ) → is_nothing (lowest_from f 0 n) ≡ true → (k : ℕ) → k < n → f k ≡ false
  none_passes n e k h = let z : 0 + k ≡ k = omega arith in ap f (sym z) ∙ none_from 0 n e k h

  from_none : (s n : ℕ) → ((k : ℕ) → k < n → f (s + k) ≡ false) → is_nothing (lowest_from f s n) ≡ true
  unfolding lowest_from
  from_none s zero h = refl
  from_none s (suc n) h =
      let z : s + 0 ≡ s = omega arith in
      ap (λ (b : Bool). is_nothing (cond b (Some s) (lowest_from f (suc s) n))) (ap f (sym z) ∙ h 0 (omega arith))
      ∙ from_none (suc s) n (λ k l. let y : suc s + k ≡ s + suc k = omega arith in ap f y ∙ h (suc k) (omega arith))

  pub passes_none : (n : ℕ) → ((k : ℕ) → k < n → f k ≡ false) → is_nothing (lowest_from f 0 n) ≡ true
  passes_none n h = from_none 0 n (λ k l. let z : 0 + k ≡ k = omega arith in ap f z ∙ h k l)

pub nothing_is : (o : Option ℕ) → is_nothing o ≡ true → o ≡ None
nothing_is (Some k) e = differ (sym e)
nothing_is None e = refl

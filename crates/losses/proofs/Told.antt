-- What is told of a row's lost columns (`lost_places`, specs/Losses.antt): how many there are; and where they are at most sixteen, that the first so many places tell each of them once,
-- by exponents that fall.
-- Assumes nothing.
use mathlib.Core.Path.{◌≡◌, refl, sym, ap, ◌∙◌}
use mathlib.Core.Bool.{Bool, true, false, cond}
use mathlib.Core.List.{List, [], ◌∷◌, ◌++◌, append-nil}
use Prim.Native.Nat.{ℕ, zero, suc, ◌-◌, ◌≤◌, ◌<◌, zero-le}
use native.Mathlib.Nat.{zero-add, not-suc-le-zero, le_of_suc-le-suc}
use native.Mathlib.Omega.{arith}
use borrow.Author.Tests.{lt-ltb, le-ltb}
use lib.Dec.{ltb}
use lib.ListN.{length, get_or, length-append}
use Rattle.ground.proofs.Listed.{get_or-listed_0}
use Rattle.code.specs.Restore.{lost_of}
use Rattle.roots.specs.Roots.{passing}
use Rattle.roots.proofs.Passing.{single, passing-more}
use Rattle.roots.proofs.Bound.{Chosen, chosen}
use Rattle.losses.specs.Losses.{lost_places}

-- ---- how many pass, and that they do

pub lost-passing : (f : ℕ → Bool) (n : ℕ) → lost_of f n ≡ length (passing f n 0)
unfolding lost_of passing
lost-passing f zero = refl
lost-passing f (suc n) = by (f n) (lost-passing f n) ∙ ap length (sym (passing-more f n 0 ∙ ap (λ (k : ℕ). passing f n 0 ++ single (f k) k) (zero-add n)))
  where
    by : (b : Bool) → lost_of f n ≡ length (passing f n 0) → cond b (suc (lost_of f n)) (lost_of f n) ≡ length (passing f n 0 ++ single b n)
    by true e = omega (arith, length-append (passing f n 0) (n ∷ []))
    by false e = e ∙ sym (ap length (append-nil (passing f n 0)))

pub lost-length : (f : ℕ → Bool) → lost_of f 255 ≡ length (passing f 255 0)
lost-length f = lost-passing f 255

pub passing_passes : (f : ℕ → Bool) (n e k : ℕ) → k < length (passing f n e) → f (get_or (passing f n e) k 0) ≡ true
unfolding passing
passing_passes f zero e k h = absurd (not-suc-le-zero h)
passing_passes f (suc n) e k h = by (f e) refl k h (passing_passes f n (suc e))
  where
    by : (b : Bool) → f e ≡ b → (j : ℕ) → j < length (cond b (e ∷ passing f n (suc e)) (passing f n (suc e)))
        → ((i : ℕ) → i < length (passing f n (suc e)) → f (get_or (passing f n (suc e)) i 0) ≡ true)
        → f (get_or (cond b (e ∷ passing f n (suc e)) (passing f n (suc e))) j 0) ≡ true
    by true q zero l rest = q
    by true q (suc j) l rest = rest j (le_of_suc-le-suc l)
    by false q j l rest = rest j l

-- ---- a list as it is told: each by its exponent, 0 behind them

abbrev pub told_at : List ℕ → ℕ → ℕ
told_at l k = cond (ltb k (length l)) (254 - get_or l k 0) 0

pub told-within : (l : List ℕ) (k : ℕ) → k < length l → told_at l k ≡ 254 - get_or l k 0
told-within l k h = rw (lt-ltb k (length l) h) refl

pub told-beyond : (l : List ℕ) (k : ℕ) → length l ≤ k → told_at l k ≡ 0
told-beyond l k h = rw (le-ltb k (length l) h) refl

-- ---- at most sixteen

module _ (f : ℕ → Bool) (few : lost_of f 255 ≤ 16) where
  are : Chosen f 255 0 (passing f 255 0)
  are = chosen f 255 0

  within : {k : ℕ} → k < lost_of f 255 → k < length (passing f 255 0)
  within h = omega (arith, lost-length f)

  place : (k : ℕ) → k < lost_of f 255 → get_or (lost_places f) k 0 ≡ 254 - get_or (passing f 255 0) k 0
  unfolding lost_places
  place k h = get_or-listed_0 (told_at (passing f 255 0)) 16 k 0 (omega arith) ∙ told-within (passing f 255 0) k (within h)

  pub places_fall : (k l : ℕ) → k < l → l < lost_of f 255 → get_or (lost_places f) l 0 < get_or (lost_places f) k 0
  places_fall k l h b = omega (arith, place k (omega arith), place l b, are.rising k l h (within b), are.below l (within b))

  pub places-below : (k : ℕ) → k < lost_of f 255 → get_or (lost_places f) k 0 ≤ 254
  places-below k h = omega (arith, place k h)

  -- each lost column is told
  pub places-all : (c : ℕ) → c < 255 → f c ≡ true → (k : ℕ) × (k < lost_of f 255) × (get_or (lost_places f) k 0 ≡ 254 - c)
  places-all c h t =
      let r = are.all c zero-le (omega arith) t in
      let b : r.0 < lost_of f 255 = omega (arith, lost-length f, r.1) in
      (r.0, b, place r.0 b ∙ ap (λ (x : ℕ). 254 - x) r.2)

  -- what is told is lost
  pub places-lost : (k : ℕ) → k < lost_of f 255 → f (254 - get_or (lost_places f) k 0) ≡ true
  places-lost k h =
      let e : 254 - get_or (lost_places f) k 0 ≡ get_or (passing f 255 0) k 0 = omega (arith, place k h, are.below k (within h)) in
      ap f e ∙ passing_passes f 255 0 k (within h)

-- A good record: what it says of each place and of each two, and that it stays good when a place is set: document 01, sections 5 and 6.
-- Assumes nothing.
use mathlib.Core.Path.{◌≡◌, refl, ◌∙◌}
use mathlib.Core.Bool.{Bool, true, false, ◌&&◌}
use mathlib.Core.List.{List, [], ◌∷◌}
use Prim.Native.Nat.{ℕ, zero, suc, ◌+◌, ◌<◌}
use native.Mathlib.Omega.{arith}
use borrow.Author.Tests.{eqb-true, eqb-false, ltb-true, ltb-false}
use lib.Dec.{eqb, leb, ltb}
use lib.ListN.{length, get_or, drop, set, length-set}
use lib.Seq.{get_or-set_same, get_or-set_other}
use Rattle.std.proofs.lemmas.Bool.{and_parts}
use Rattle.places.specs.declared.Place.{Place}
use Rattle.places.specs.Places.{unused, fresh_record, in_use, usable, end_of, all, ranges_fit, agree, fits, good}
use Rattle.ground.proofs.Truth.{and_join}
use Rattle.places.proofs.Steps.{all-at, all_of, good-yes}
use Rattle.places.proofs.Agreeing.{agree_sym, agree_left}

-- a place after place i was set to p
pub at_set : (ps : List Place) (i : ℕ) (p : Place) (P : Place → Type 0) (k : ℕ) → k < length ps → (k ≡ i → P p) → ((k ≡ i → ⊥) → P (get_or ps k unused)) → P (get_or (set ps i p) k unused)
at_set ps i p P k h x y = by (eqb k i) refl
  where
    by : (b : Bool) → eqb k i ≡ b → P (get_or (set ps i p) k unused)
    by true e =
        let z : k ≡ i = eqb-true k i e in
        rw (z, get_or-set_same ps i p unused (omega arith)) (x z)
    by false e = rw (get_or-set_other ps i k p unused (eqb-false k i e)) (y (eqb-false k i e))

module _ (n : ℕ) where
  -- ---- what a good record says

  -- of each place
  pub good-at : (ps : List Place) (i : ℕ) → good n ps ≡ true → i < length ps → fits n (get_or ps i unused) ≡ true
  unfolding good
  good-at [] i g h = absurd (omega arith)
  good-at (p ∷ ps) zero g h = (and_parts (fits n p) (all (agree p) ps && good n ps) g).0
  good-at (p ∷ ps) (suc i) g h =
      good-at ps i (and_parts (all (agree p) ps) (good n ps) (and_parts (fits n p) _ g).1).1 (omega arith)

  good-later : (ps : List Place) (i j : ℕ) → good n ps ≡ true → i < j → j < length ps → agree (get_or ps i unused) (get_or ps j unused) ≡ true
  unfolding good
  good-later [] i j g l h = absurd (omega arith)
  good-later (p ∷ ps) i zero g l h = absurd (omega arith)
  good-later (p ∷ ps) zero (suc j) g l h =
      all-at (agree p) ps j (and_parts (all (agree p) ps) (good n ps) (and_parts (fits n p) _ g).1).0 (omega arith)
  good-later (p ∷ ps) (suc i) (suc j) g l h =
      good-later ps i j (and_parts (all (agree p) ps) (good n ps) (and_parts (fits n p) _ g).1).1 (omega arith) (omega arith)

  -- of each two
  pub good_pair : (ps : List Place) (i j : ℕ) → good n ps ≡ true → i < length ps → j < length ps → (i ≡ j → ⊥) → agree (get_or ps i unused) (get_or ps j unused) ≡ true
  good_pair ps i j g hi hj d = by (ltb i j) refl
    where
      by : (b : Bool) → ltb i j ≡ b → agree (get_or ps i unused) (get_or ps j unused) ≡ true
      by true e = good-later ps i j g (ltb-true i j e) hj
      by false e =
          let l : j < i = omega (arith, ltb-false i j e) in
          agree_sym (get_or ps i unused) (get_or ps j unused) ∙ good-later ps j i g l hi

  -- and nothing more
  pub good_of : (ps : List Place) → ((i : ℕ) → i < length ps → fits n (get_or ps i unused) ≡ true) → ((i j : ℕ) → i < j → j < length ps → agree (get_or ps i unused) (get_or ps j unused) ≡ true) → good n ps ≡ true
  unfolding good
  good_of [] f a = refl
  good_of (p ∷ ps) f a =
      and_join (f 0 (omega arith))
      (and_join (all_of (agree p) ps (λ k h. a 0 (suc k) (omega arith) (omega arith)))
      (good_of ps (λ i h. f (suc i) (omega arith)) (λ i j l h. a (suc i) (suc j) (omega arith) (omega arith))))

  -- an unused place fits, and does not matter
  pub fits_skip : (p : Place) → in_use p ≡ false → fits n p ≡ true
  unfolding fits
  fits_skip p u = rw u

  pub fits_used : (p : Place) → in_use p ≡ true → fits n p ≡ (ranges_fit p && leb (end_of p) (usable n))
  unfolding fits
  fits_used p u = rw u

  pub good_skip : (ps : List Place) (i : ℕ) → i < length ps → in_use (get_or ps i unused) ≡ false → good n (drop i ps) ≡ good n (drop (i + 1) ps)
  good_skip ps i h u =
      good-yes n ps i h (fits_skip (get_or ps i unused) u)
      (all_of (agree (get_or ps i unused)) (drop (i + 1) ps) (λ k l. agree_left (get_or ps i unused) (get_or (drop (i + 1) ps) k unused) u))

  -- ---- what keeps it good

  module _ (ps : List Place) (i : ℕ) (p : Place) where
    -- a place that fits and agrees with every other may be set
    pub good-set : good n ps ≡ true → fits n p ≡ true → ((k : ℕ) → k < length ps → (k ≡ i → ⊥) → agree p (get_or ps k unused) ≡ true) → good n (set ps i p) ≡ true
    good-set g f a =
        good_of (set ps i p)
        (λ k h. at_set ps i p (λ q. fits n q ≡ true) k (omega (arith, length-set ps i p)) (λ z. f) (λ d. good-at ps k g (omega (arith, length-set ps i p))))
        (λ j k l h.
        let hk : k < length ps = omega (arith, length-set ps i p) in
        at_set ps i p (λ q. agree q (get_or (set ps i p) k unused) ≡ true) j (omega arith)
        (λ z. at_set ps i p (λ q. agree p q ≡ true) k hk (λ w. absurd (omega arith)) (a k hk))
        (λ d. at_set ps i p (λ q. agree (get_or ps j unused) q ≡ true) k hk
        (λ w. agree_sym (get_or ps j unused) p ∙ a j (omega arith) d)
        (λ e. good_pair ps j k g (omega arith) hk (λ z. omega arith))))

  -- any place may become unused
  pub good_unset : (ps : List Place) (i : ℕ) → good n ps ≡ true → good n (set ps i unused) ≡ true
  good_unset ps i g = good-set ps i unused g (fits_skip unused refl) (λ k h d. agree_left unused (get_or ps k unused) refl)

  -- a fresh record is good for every store
  pub fresh-good : good n fresh_record.places ≡ true
  unfolding good fits agree
  fresh-good = refl

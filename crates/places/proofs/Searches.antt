-- The first place that passes a test: what its number says, and what stays when a place of the record is set.
-- Assumes nothing.
use mathlib.Core.Path.{◌≡◌, refl, ap, ◌∙◌}
use mathlib.Core.Bool.{Bool, true, false, cond}
use mathlib.Core.List.{List, [], ◌∷◌}
use Prim.Native.Nat.{ℕ, zero, suc, ◌+◌, ◌<◌}
use native.Mathlib.Nat.{add-zero, zero-add, add-suc, suc-add}
use native.Mathlib.Numerals.{add-one}
use native.Mathlib.Omega.{arith}
use lib.ListN.{length, get_or, set}
use Rattle.places.specs.declared.Place.{Place}
use Rattle.places.specs.Places.{unused, first_from}
use Rattle.std.specs.Prelude.{Some, None}
use Rattle.std.specs.List.{position_from}

module _ (f : Place → Bool) where
  -- place i passes and no earlier one does
  pub record First (ps : List Place) (i : ℕ) : Type 0 where
    pub within : i < length ps
    pub passes : f (get_or ps i unused) ≡ true
    pub earlier : (k : ℕ) → k < i → f (get_or ps k unused) ≡ false

  first_head : (p : Place) (ps : List Place) → f p ≡ true → First (p ∷ ps) 0
  first_head p ps t = record { within = omega arith; passes = t; earlier = λ k h. absurd (omega arith) }

  first_tail : (p : Place) (ps : List Place) (i : ℕ) → f p ≡ false → First ps i → First (p ∷ ps) (suc i)
  first_tail p ps i t r = record { within = omega (arith, r.within); passes = r.passes; earlier = before }
    where
      before : (k : ℕ) → k < suc i → f (get_or (p ∷ ps) k unused) ≡ false
      before zero h = t
      before (suc k) h = r.earlier k (omega arith)

  tail_first : (p : Place) (ps : List Place) (i : ℕ) → First (p ∷ ps) (suc i) → First ps i
  tail_first p ps i r =
      record { within = omega (arith, r.within); passes = r.passes; earlier = λ k h. r.earlier (suc k) (omega arith) }

  -- the first of ps being number j
  from_first : (ps : List Place) (j i : ℕ) → First ps i → first_from f ps j ≡ Some (j + i)
  unfolding first_from
  from_first [] j i r = absurd (omega (arith, r.within))
  from_first (p ∷ ps) j zero r = rw (r.passes, add-zero)
  from_first (p ∷ ps) j (suc i) r = rw (r.earlier 0 (omega arith), add-suc) (from_first ps (suc j) i (tail_first p ps i r) ∙ ap Some (suc-add j i))

  record Counted (ps : List Place) (j i : ℕ) : Type 0 where
    place : ℕ
    number : i ≡ j + place
    first : First ps place

  first_from_lem : (ps : List Place) (j i : ℕ) → first_from f ps j ≡ Some i → Counted ps j i
  unfolding first_from
  first_from_lem [] j i e = let z : ◌≡◌ {A = ℕ} 0 1 = cc in absurd (omega arith)
  first_from_lem (p ∷ ps) j i e = by (first_from_lem ps (suc j) i) (f p) refl e
    where
      by : (first_from f ps (suc j) ≡ Some i → Counted ps (suc j) i) → (b : Bool) → f p ≡ b → cond b (Some j) (first_from f ps (suc j)) ≡ Some i → Counted (p ∷ ps) j i
      by ih true t e = let z : j ≡ i = cc in record { place = 0; number = omega arith; first = first_head p ps t }
      by ih false t e =
          let r = ih e in
          record { place = suc r.place; number = omega (arith, r.number); first = first_tail p ps r.place t r.first }

  pub first_is : (ps : List Place) (i : ℕ) → first_from f ps 0 ≡ Some i → First ps i
  first_is ps i e =
      let r = first_from_lem ps 0 i e in
      let q : r.place ≡ i = omega (arith, r.number) in
      rw q at r.first

  pub is_first : (ps : List Place) (i : ℕ) → First ps i → first_from f ps 0 ≡ Some i
  is_first ps i r = from_first ps 0 i r ∙ ap Some (zero-add i)

  -- no place passes exactly if none is found
  pub none_passes : (ps : List Place) (j : ℕ) → first_from f ps j ≡ None → (k : ℕ) → k < length ps → f (get_or ps k unused) ≡ false
  unfolding first_from
  none_passes [] j e k h = absurd (omega arith)
  none_passes (p ∷ ps) j e k h = by (none_passes ps (suc j)) (f p) refl e k h
    where
      by : (first_from f ps (suc j) ≡ None → (k : ℕ) → k < length ps → f (get_or ps k unused) ≡ false) → (b : Bool) → f p ≡ b → cond b (Some j) (first_from f ps (suc j)) ≡ None → (k : ℕ) → k < suc (length ps) → f (get_or (p ∷ ps) k unused) ≡ false
      by ih true t e k h = let z : ◌≡◌ {A = ℕ} 0 1 = cc in absurd (omega arith)
      by ih false t e zero h = t
      by ih false t e (suc k) h = ih e k (omega arith)

  pub first-none : (ps : List Place) (j : ℕ) → ((k : ℕ) → k < length ps → f (get_or ps k unused) ≡ false) → first_from f ps j ≡ None
  unfolding first_from
  first-none [] j h = refl
  first-none (p ∷ ps) j h = rw (h 0 (omega arith)) (first-none ps (suc j) (λ k l. h (suc k) (omega arith)))

  -- the only place that passes is found
  pub first-only : (ps : List Place) (i : ℕ) → i < length ps → f (get_or ps i unused) ≡ true → ((k : ℕ) → k < length ps → (k ≡ i → ⊥) → f (get_or ps k unused) ≡ false) → first_from f ps 0 ≡ Some i
  first-only ps i h t o =
      is_first ps i (record { within = h; passes = t; earlier = λ k l. o k (omega arith) (λ z. omega arith) })

  -- a place that is set to one that passes alike changes nothing
  pub first-set : (ps : List Place) (j i : ℕ) (p : Place) → f p ≡ f (get_or ps i unused) → first_from f (set ps i p) j ≡ first_from f ps j
  unfolding first_from
  first-set [] j i p e = refl
  first-set (q ∷ ps) j zero p e = rw e
  first-set (q ∷ ps) j (suc i) p e = rw (first-set ps (suc j) i p e)

-- as the library counts in a search
pub position-first : (f : Place → Bool) (ps : List Place) (i : ℕ) → position_from f i ps ≡ first_from f ps i
unfolding first_from
position-first f [] i = refl
position-first f (p ∷ ps) i = rw (add-one, position-first f ps (suc i))

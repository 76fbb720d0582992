-- A walk along the slots of a place, as loops take it: the contents from slot k on, one slot at a time.
-- Assumes nothing.
use mathlib.Core.Path.{◌≡◌, ap, ◌∙◌}
use mathlib.Core.List.{List, [], ◌∷◌}
use Prim.Native.Nat.{ℕ, suc, ◌+◌, ◌-◌, ◌<◌, ◌≤◌}
use native.Mathlib.Numerals.{add-one}
use native.Mathlib.Omega.{arith}
use Rattle.ground.specs.Lists.{listed}
use Rattle.places.specs.declared.Place.{Place}
use Rattle.contents.specs.Contents.{Slot, slot_at, slot_of, contents}
use Rattle.contents.proofs.Slots.{slot_next}

-- the slots from k on
abbrev pub contents_from : Place → List ℕ → ℕ → List Slot
contents_from p s k = listed (slot_of p s) (p.count - k) k

module _ (p : Place) (s : List ℕ) where
  pub walk_all : contents_from p s 0 ≡ contents p s
  unfolding contents
  walk_all = let e : p.count - 0 ≡ p.count = omega arith in ap (λ (n : ℕ). listed (slot_of p s) n 0) e

  pub walk_step : (k : ℕ) → k < p.count → contents_from p s k ≡ slot_of p s k ∷ contents_from p s (k + 1)
  walk_step k h =
      let e : p.count - k ≡ suc (p.count - (k + 1)) = omega arith in
      let d : suc k ≡ k + 1 = omega arith in
      ap (λ (n : ℕ). listed (slot_of p s) n k) e ∙ ap (λ (i : ℕ). slot_of p s k ∷ listed (slot_of p s) (p.count - (k + 1)) i) d

  pub walk_end : (k : ℕ) → p.count ≤ k → contents_from p s k ≡ []
  walk_end k h = let e : p.count - k ≡ 0 = omega arith in ap (λ (n : ℕ). listed (slot_of p s) n k) e

-- and where the next slot stands
pub walk_on : (p : Place) (k : ℕ) → slot_at p (k + 1) ≡ slot_at p k + (p.slot + 2)
walk_on p k = ap (slot_at p) (add-one k) ∙ slot_next p k

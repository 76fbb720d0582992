-- One step of the test of a record, as its loop takes it; and what a test of all places says of each.
-- Assumes nothing.
use mathlib.Core.Path.{◌≡◌, refl, sym, ◌∙◌}
use mathlib.Core.Bool.{Bool, true, false}
use mathlib.Core.List.{List, [], ◌∷◌, map}
use Prim.Native.Nat.{ℕ, zero, suc, ◌+◌, ◌<◌, ◌≤◌}
use native.Mathlib.Numerals.{add-one}
use native.Mathlib.Omega.{arith}
use lib.ListN.{length, get_or, drop, drop_of_length-le, length-map}
use lib.Seq.{drop-cons}
use Rattle.std.specs.List.{list_all}
use Rattle.std.proofs.lemmas.Bool.{and_parts}
use Rattle.places.specs.declared.Place.{Place}
use Rattle.places.specs.Places.{unused, all, agree, fits, good}
use Rattle.ground.proofs.Truth.{and_join}

-- the length of an array of structs, from what owning it tells: `search (needs, mapped_length)`
pub mapped_length : (X Y : Type 0) (f : X → Y) (l : List X) (n : ℕ) → length (map f l) ≡ n → length l ≡ n
mapped_length X Y f l n e = sym (length-map l f) ∙ e

-- as the library says it of a chain
pub list_all-all : (f : Place → Bool) (ps : List Place) → list_all f ps ≡ all f ps
list_all-all f [] = refl
list_all-all f (p ∷ ps) = rw (list_all-all f ps)

-- all places pass exactly if each does
pub all-at : (f : Place → Bool) (ps : List Place) (i : ℕ) → all f ps ≡ true → i < length ps → f (get_or ps i unused) ≡ true
all-at f [] i a h = absurd (omega arith)
all-at f (p ∷ ps) zero a h = (and_parts (f p) (all f ps) a).0
all-at f (p ∷ ps) (suc i) a h = all-at f ps i (and_parts (f p) (all f ps) a).1 (omega arith)

pub all_of : (f : Place → Bool) (ps : List Place) → ((i : ℕ) → i < length ps → f (get_or ps i unused) ≡ true) → all f ps ≡ true
all_of f [] e = refl
all_of f (p ∷ ps) e = and_join (e 0 (omega arith)) (all_of f ps (λ i h. e (suc i) (omega arith)))

module _ (n : ℕ) (ps : List Place) (i : ℕ) (h : i < length ps) where
  pub good_unfit : fits n (get_or ps i unused) ≡ false → good n (drop i ps) ≡ false
  unfolding good
  good_unfit e = rw (drop-cons ps i unused, e)

  module _ (f : fits n (get_or ps i unused) ≡ true) where
    pub good_clash : all (agree (get_or ps i unused)) (drop (i + 1) ps) ≡ false → good n (drop i ps) ≡ false
    unfolding good
    good_clash e = rw (drop-cons ps i unused, f, ← add-one i, e)

    pub good-yes : all (agree (get_or ps i unused)) (drop (i + 1) ps) ≡ true → good n (drop i ps) ≡ good n (drop (i + 1) ps)
    unfolding good
    good-yes e = rw (drop-cons ps i unused, f, ← add-one i, e, add-one i)

pub good_end : (n : ℕ) (ps : List Place) (i : ℕ) → length ps ≤ i → good n (drop i ps) ≡ true
unfolding good
good_end n ps i h = rw (drop_of_length-le ps h)

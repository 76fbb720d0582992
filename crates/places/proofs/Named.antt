-- Which place a resource and a type name: document 01, section 5, and document 02, R-1. Names are compared here; above, laws are over any name.
-- Assumes nothing.
use mathlib.Core.Path.{◌≡◌, refl, sym, ap, ◌∙◌}
use mathlib.Core.Bool.{Bool, true, false}
use borrow.Author.Tests.{eq-eqb, ne_eqb, eqb-true, eqb-false, not-true}
use lib.Dec.{eqb}
use Rattle.std.proofs.lemmas.Bool.{and_parts, false_from_ne_true}
use Rattle.places.specs.declared.Place.{Place}
use Rattle.places.specs.declared.Name.{Name}
use Rattle.places.specs.Places.{in_use, place_name, same_name, names}
use Rattle.ground.proofs.Truth.{differ, and_join, not_yes, not_no}

-- ---- names are the same exactly if both parts are

pub same_name_lem : (x y : Name) → x ≡ y → same_name x y ≡ true
unfolding same_name
same_name_lem x y e = and_join (eq-eqb _ _ (ap (λ (n : Name). n.resource) e)) (eq-eqb _ _ (ap (λ (n : Name). n.kind) e))

pub name-same : (x y : Name) → same_name x y ≡ true → x ≡ y
unfolding same_name
name-same x y e =
    let b = and_parts (eqb x.resource y.resource) (eqb x.kind y.kind) e in
    let r : x.resource ≡ y.resource = eqb-true _ _ b.0 in
    let k : x.kind ≡ y.kind = eqb-true _ _ b.1 in
    λ i. record { resource = r i; kind = k i }

pub other_name : (x y : Name) → (x ≡ y → ⊥) → same_name x y ≡ false
other_name x y h = false_from_ne_true (same_name x y) (λ e. h (name-same x y e))

pub name-other : (x y : Name) → same_name x y ≡ false → x ≡ y → ⊥
name-other x y e z = differ (sym (same_name_lem x y z) ∙ e)

pub same-name_sym : (x y : Name) → same_name x y ≡ same_name y x
same-name_sym x y = by (same_name x y) refl
  where
    by : (b : Bool) → same_name x y ≡ b → b ≡ same_name y x
    by true e = sym (same_name_lem y x (sym (name-same x y e)))
    by false e = sym (other_name y x (λ z. name-other x y e (sym z)))

-- ---- a place is in use exactly if its resource is not 0

pub use_not : (p : Place) → in_use p ≡ true → p.resource ≡ 0 → ⊥
use_not p u = eqb-false p.resource 0 (not-true _ u)

pub in_use_lem : (p : Place) → (p.resource ≡ 0 → ⊥) → in_use p ≡ true
in_use_lem p h = not_yes (ne_eqb _ _ h)

pub not_in_use : (p : Place) → p.resource ≡ 0 → in_use p ≡ false
not_in_use p h = not_no (eq-eqb _ _ h)

-- ---- what a place names

pub names-yes : (p : Place) (x : Name) → (x.resource ≡ 0 → ⊥) → place_name p ≡ x → names p x ≡ true
names-yes p x h e = and_join (in_use_lem p (λ z. h (sym (ap (λ (n : Name). n.resource) e) ∙ z))) (same_name_lem _ _ e)

pub names-name : (p : Place) (x : Name) → names p x ≡ true → place_name p ≡ x
names-name p x e = name-same _ _ (and_parts (in_use p) _ e).1

pub names_in_use : (p : Place) (x : Name) → names p x ≡ true → in_use p ≡ true
names_in_use p x e = (and_parts (in_use p) _ e).0

pub names-no : (p : Place) (x : Name) → (place_name p ≡ x → ⊥) → names p x ≡ false
names-no p x h = false_from_ne_true (names p x) (λ e. h (names-name p x e))

pub names-unused : (p : Place) (x : Name) → in_use p ≡ false → names p x ≡ false
names-unused p x u = rw u

-- a place in use names its own
pub names_used : (p : Place) (x : Name) → in_use p ≡ true → names p x ≡ same_name (place_name p) x
names_used p x u = rw u

-- a place names one resource and type alone
pub names_one : (p : Place) (x y : Name) → names p x ≡ true → (y ≡ x → ⊥) → names p y ≡ false
names_one p x y e h = names-no p y (λ z. h (sym z ∙ names-name p x e))

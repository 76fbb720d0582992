-- The place that holds a resource and type, and the first unused one, in a record and after a place of it is set: document 01, section 5.
-- Assumes nothing.
use mathlib.Core.Path.{◌≡◌, refl, sym, ◌∙◌}
use mathlib.Core.Bool.{true, false, not}
use mathlib.Core.List.{List}
use Prim.Native.Nat.{ℕ, ◌<◌}
use native.Mathlib.Omega.{arith}
use borrow.Author.Tests.{not-true, not-false}
use lib.ListN.{length, get_or, set, length-set}
use lib.Seq.{get_or-set_same, get_or-set_other}
use Rattle.std.proofs.lemmas.Bool.{false_from_ne_true}
use Rattle.places.specs.declared.Place.{Place}
use Rattle.places.specs.declared.Name.{Name}
use Rattle.places.specs.Places.{unused, in_use, place_name, names, good, place_named, first_unused}
use Rattle.places.proofs.Searches.{first_is, none_passes, first-none, first-only, first-set}
use Rattle.places.proofs.Named.{names-no, names-unused, names_one}
use Rattle.places.proofs.Keeping.{at_set}
use Rattle.places.proofs.Facts.{one_holder}
use Rattle.std.specs.Prelude.{Some, None}

module _ (ps : List Place) where
  -- ---- found, and not found

  pub found-names : (x : Name) (i : ℕ) → place_named ps x ≡ Some i → (i < length ps) × (names (get_or ps i unused) x ≡ true)
  found-names x i e = let r = first_is (λ p. names p x) ps i e in (r.within, r.passes)

  pub found_first : (x : Name) (i : ℕ) → place_named ps x ≡ Some i → (k : ℕ) → k < i → names (get_or ps k unused) x ≡ false
  found_first x i e = (first_is (λ p. names p x) ps i e).earlier

  pub missing_names : (x : Name) → place_named ps x ≡ None → (k : ℕ) → k < length ps → names (get_or ps k unused) x ≡ false
  missing_names x = none_passes (λ p. names p x) ps 0

  pub names_missing : (x : Name) → ((k : ℕ) → k < length ps → names (get_or ps k unused) x ≡ false) → place_named ps x ≡ None
  names_missing x = first-none (λ p. names p x) ps 0

  pub unused-at : (i : ℕ) → first_unused ps ≡ Some i → (i < length ps) × (in_use (get_or ps i unused) ≡ false)
  unused-at i e = let r = first_is (λ p. not (in_use p)) ps i e in (r.within, not-true _ r.passes)

  pub unused-first : (i : ℕ) → first_unused ps ≡ Some i → (k : ℕ) → k < i → in_use (get_or ps k unused) ≡ true
  unused-first i e k h = not-false _ ((first_is (λ p. not (in_use p)) ps i e).earlier k h)

  pub unused-none : first_unused ps ≡ None → (k : ℕ) → k < length ps → in_use (get_or ps k unused) ≡ true
  unused-none e k h = not-false _ (none_passes (λ p. not (in_use p)) ps 0 e k h)

  -- ---- after place i is set to p

  module _ (i : ℕ) (p : Place) where
    -- place i names what p names, and every other place what it named
    pub names-at-set : (x : Name) → i < length ps → names (get_or (set ps i p) i unused) x ≡ names p x
    names-at-set x h = rw (get_or-set_same ps i p unused h)

    pub names_off_set : (x : Name) (k : ℕ) → (k ≡ i → ⊥) → names (get_or (set ps i p) k unused) x ≡ names (get_or ps k unused) x
    names_off_set x k d = rw (get_or-set_other ps i k p unused d)

    -- a name that the place has neither before nor after is found where it was
    pub named_set : (x : Name) → names p x ≡ names (get_or ps i unused) x → place_named (set ps i p) x ≡ place_named ps x
    named_set x e = first-set (λ q. names q x) ps 0 i p e

    -- a name that no place had is found at a place that names it now
    pub named_new : (x : Name) → place_named ps x ≡ None → i < length ps → names p x ≡ true → place_named (set ps i p) x ≡ Some i
    named_new x e h t =
        first-only (λ q. names q x) (set ps i p) i (omega (arith, length-set ps i p)) (rw (get_or-set_same ps i p unused h) t)
        (λ k l d. at_set ps i p (λ q. names q x ≡ false) k (omega (arith, length-set ps i p)) (λ z. absurd (d z)) (λ _. missing_names x e k (omega (arith, length-set ps i p))))

    -- a place that was unused, set to a place of another name
    pub named_other : (x : Name) → in_use (get_or ps i unused) ≡ false → (place_name p ≡ x → ⊥) → place_named (set ps i p) x ≡ place_named ps x
    named_other x u d = named_set x (names-no p x d ∙ sym (names-unused (get_or ps i unused) x u))

  -- ---- after place i is made unused

  -- what it held is found no more
  pub named-gone : (n : ℕ) (x : Name) (i : ℕ) → good n ps ≡ true → place_named ps x ≡ Some i → place_named (set ps i unused) x ≡ None
  named-gone n x i g e =
      let r = found-names x i e in
      first-none (λ q. names q x) (set ps i unused) 0
      (λ k h.
      let hk : k < length ps = omega (arith, length-set ps i unused) in
      at_set ps i unused (λ q. names q x ≡ false) k hk (λ z. refl)
      (λ d. false_from_ne_true (names (get_or ps k unused) x) (λ t. d (one_holder n ps g k i hk r.0 x t r.1))))

  -- every other is found where it was
  pub named-left : (x y : Name) (i : ℕ) → place_named ps x ≡ Some i → (y ≡ x → ⊥) → place_named (set ps i unused) y ≡ place_named ps y
  named-left x y i e d = named_set i unused y (sym (names_one (get_or ps i unused) x y (found-names x i e).1 d))

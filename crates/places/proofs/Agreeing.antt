-- When two places agree: document 01, section 6, refusal 9.
-- Assumes nothing.
use mathlib.Core.Path.{◌≡◌, refl, sym, ◌∙◌}
use mathlib.Core.Logic.{◌⊎◌, inl, inr, ⊎_map}
use mathlib.Core.Bool.{Bool, true, false, not, ◌||◌, and_comm, or_comm, and-false, not-not}
use Prim.Native.Nat.{ℕ, ◌<◌, ◌≤◌}
use native.Mathlib.Omega.{arith}
use borrow.Author.Tests.{le-leb, lt-leb, leb-true, leb-false, not-true, not-false}
use lib.Dec.{leb}
use Rattle.std.proofs.lemmas.Bool.{or_cases, or_parts}
use Rattle.places.specs.declared.Place.{Place}
use Rattle.places.specs.Places.{in_use, place_name, same_name, end_of, meets, agree}
use Rattle.ground.proofs.Truth.{differ, or_right}
use Rattle.places.proofs.Named.{same_name_lem, other_name, same-name_sym}

pub agree_sym : (p q : Place) → agree p q ≡ agree q p
unfolding agree meets
agree_sym p q = rw (and_comm (in_use p) (in_use q), same-name_sym (place_name p) (place_name q), or_comm (leb (end_of p) q.start) (leb (end_of q) p.start))

module _ (p q : Place) where
  -- an unused place agrees with every place
  pub agree_left : in_use p ≡ false → agree p q ≡ true
  unfolding agree
  agree_left u = rw u

  pub agree_right : in_use q ≡ false → agree p q ≡ true
  unfolding agree
  agree_right u = rw (u, and-false)

  module _ (u : in_use p ≡ true) (v : in_use q ≡ true) where
    -- places in use agree by their names and their bytes
    agree_used : agree p q ≡ not (same_name (place_name p) (place_name q) || meets p q)
    unfolding agree
    agree_used = rw (u, v)

    pub agree_shared : place_name p ≡ place_name q → agree p q ≡ false
    agree_shared e = agree_used ∙ rw (same_name_lem _ _ e)

    pub agree-other : agree p q ≡ true → place_name p ≡ place_name q → ⊥
    agree-other e z = differ (sym e ∙ agree_shared z)

    pub agree-apart : agree p q ≡ true → (end_of p ≤ q.start) ⊎ (end_of q ≤ p.start)
    unfolding meets
    agree-apart e =
        ⊎_map (leb-true (end_of p) q.start) (leb-true (end_of q) p.start)
        (or_cases (leb (end_of p) q.start) (leb (end_of q) p.start)
        (not-false _ (or_parts (same_name (place_name p) (place_name q)) (meets p q) (not-true _ (sym agree_used ∙ e))).1))

    module _ (d : place_name p ≡ place_name q → ⊥) where
      agree-bytes : agree p q ≡ (leb (end_of p) q.start || leb (end_of q) p.start)
      unfolding meets
      agree-bytes = agree_used ∙ rw (other_name _ _ d) (not-not _)

      pub agree-before : end_of p ≤ q.start → agree p q ≡ true
      agree-before l = agree-bytes ∙ rw (le-leb _ _ l)

      pub agree-behind : end_of q ≤ p.start → agree p q ≡ true
      agree-behind l = agree-bytes ∙ or_right (leb (end_of p) q.start) (le-leb _ _ l)

      pub agree_not_before : q.start < end_of p → agree p q ≡ leb (end_of q) p.start
      agree_not_before l = agree-bytes ∙ rw (lt-leb _ _ l)

-- ---- places meet exactly if they have a byte in common

pub record Shared (p q : Place) (b : ℕ) : Type 0 where
  pub from_p : p.start ≤ b
  pub in_p : b < end_of p
  pub from_q : q.start ≤ b
  pub in_q : b < end_of q

pub shared_meets : (p q : Place) (b : ℕ) → Shared p q b → meets p q ≡ true
unfolding meets
shared_meets p q b s =
    rw (
      lt-leb (end_of p) q.start (omega (arith, s.in_p, s.from_q)),
      lt-leb (end_of q) p.start (omega (arith, s.in_q, s.from_p)),
    )

pub meets_shared : (p q : Place) → p.start < end_of p → q.start < end_of q → meets p q ≡ true → Shared p q p.start ⊎ Shared p q q.start
unfolding meets
meets_shared p q hp hq m =
    let n = or_parts (leb (end_of p) q.start) (leb (end_of q) p.start) (not-true _ m) in
    let a = leb-false (end_of p) q.start n.0 in
    let b = leb-false (end_of q) p.start n.1 in
    by hp hq a b (leb p.start q.start) refl
  where
    by : p.start < end_of p → q.start < end_of q → q.start < end_of p → p.start < end_of q → (t : Bool) → leb p.start q.start ≡ t → Shared p q p.start ⊎ Shared p q q.start
    by hp hq a b true e =
        let l = leb-true p.start q.start e in
        inr (record { from_p = l; in_p = a; from_q = omega arith; in_q = hq })
    by hp hq a b false e =
        let l = leb-false p.start q.start e in
        inl (record { from_p = omega arith; in_p = hp; from_q = omega arith; in_q = b })

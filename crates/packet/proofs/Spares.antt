-- The laws of the editions: the spare bits that an edition writes have room in the header, and fields that have them show that edition (document 02, R-9).
-- Assumes nothing.
use mathlib.Core.Path.{◌≡◌, refl, sym, subst, ◌∙◌}
use mathlib.Core.Bool.{Bool, true, false, cond, not, ◌||◌}
use Prim.Native.Nat.{ℕ, ◌<◌, ◌^◌}
use native.Mathlib.Omega.{arith}
use borrow.Author.Tests.{eqb-true, eqb-false, eq-eqb, ne_eqb}
use lib.Dec.{eqb}
use Rattle.packet.specs.declared.Packet.{Packet}
use Rattle.packet.specs.declared.Spare.{Spare}
use Rattle.packet.specs.Edition.{spare_of, is_of, edition_of}

-- the spare bits that an edition writes
pub record Spares (e : ℕ) (f : Packet) : Type 0 where
  pub reserved : f.reserved ≡ (spare_of e).reserved
  pub rows : f.protection ≡ 0 → f.rows ≡ (spare_of e).rows

-- they have room in the header
pub spare_range : (e : ℕ) → ((spare_of e).reserved < 2 ^ 4) × ((spare_of e).rows < 2 ^ 8)
unfolding spare_of
spare_range e = by (eqb e 1)
  where
    by : (t : Bool) → let s : Spare = cond t (record { reserved = 15; rows = 255 }) (record { reserved = 0; rows = 0 }) in (s.reserved < 2 ^ 4) × (s.rows < 2 ^ 8)
    by true = omega arith
    by false = omega arith

module _ (f : Packet) where
  is_own : (e : ℕ) → Spares e f → is_of e f ≡ true
  unfolding is_of
  is_own e w = rw (eq-eqb _ _ w.reserved) (by (eqb f.protection 0) refl)
    where
      by : (t : Bool) → eqb f.protection 0 ≡ t → not t || eqb f.rows (spare_of e).rows ≡ true
      by true k = eq-eqb _ _ (w.rows (eqb-true _ _ k))
      by false k = refl

  not_one : Spares 2 f → is_of 1 f ≡ false
  unfolding is_of spare_of
  not_one w = rw (ne_eqb f.reserved 15 (λ (z : f.reserved ≡ 15). omega (arith, w.reserved))) refl

  shows_one : Spares 1 f → edition_of f ≡ 1
  unfolding edition_of
  shows_one w = rw (is_own 1 w)

  shows_two : Spares 2 f → edition_of f ≡ 2
  unfolding edition_of
  shows_two w = rw (not_one w, is_own 2 w)

  pub edition_shown : (e : ℕ) → 0 < e → e < 3 → Spares e f → edition_of f ≡ e
  edition_shown e a b w = by (eqb e 1) refl
    where
      by : (t : Bool) → eqb e 1 ≡ t → edition_of f ≡ e
      by true k = let o = eqb-true e 1 k in shows_one (subst (λ n. Spares n f) o w) ∙ sym o
      by false k =
          let z : e ≡ 1 → ⊥ = eqb-false e 1 k in
          let o : e ≡ 2 = omega arith in
          shows_two (subst (λ n. Spares n f) o w) ∙ sym o

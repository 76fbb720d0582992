-- What is to be added at given places depends on nothing of a row but what it leaves: every row that leaves `rest` is restored by it, and where nothing fits none is.
-- With sixteen places something always fits.
-- Assumes nothing.
use mathlib.Core.Path.{◌≡◌, refl, sym, ap, subst, ◌∙◌}
use mathlib.Core.Logic.{⊎_elim}
use mathlib.Core.Bool.{Bool, true}
use mathlib.Core.List.{List, map}
use Rattle.std.proofs.lemmas.Bool.{cases_lt}
use Rattle.std.proofs.Common.{Option, Some, None, IsSome}
use Rattle.std.proofs.lemmas.Option.{none-some, same_Some}
use Prim.Native.Nat.{ℕ, ◌-◌, ◌≤◌, ◌<◌}
use native.Mathlib.Omega.{arith}
use lib.ListN.{length, get_or, take}
use lib.Seq.{length-take-le, get_or-take}
use Rattle.ground.specs.Bits.{sum}
use Rattle.ground.specs.Lists.{listed}
use Rattle.ground.proofs.Listed.{length-listed, get_or-listed_0}
use Rattle.field.specs.Field.{power}
use Rattle.code.specs.Code.{Bytes, add}
use Rattle.code.specs.Search.{Repaired, remainder}
use Rattle.code.specs.Search.Repaired.{found, none}
use Rattle.code.specs.Restore.{Fits, restore_of}
use Rattle.code.specs.Value.{value}
use Rattle.code.proofs.Lists.{sum-again}
use Rattle.code.proofs.Values.{value-byte}
use Rattle.code.proofs.Restored.{restore_fits, restore_found, restore_none, none-fits}
use Rattle.errata.specs.declared.Errata.{Errata}
use Rattle.errata.specs.Errata.{at_place, padded, leaving}
use Rattle.errata.specs.Restoring.{falling_to, among, filling_for, filling_of}
use Rattle.errata.specs.InnerErrata.{entries, mended_by, Placed}
use Rattle.errata.proofs.Listing.{get_d_map, beyond}
use Rattle.errata.proofs.Leaving.{leaving-length, leaving-bytes, leaving_rest}
use Rattle.errata.proofs.Between.{moved_at, moved_coded, Turning, mended_moved}
use Rattle.errata.proofs.Places.{falling-few, falling-below, falling-placed, not_among}
use Rattle.errata.proofs.Fitting.{filling_is, weighed_fits}
use Rattle.errata.proofs.Mending.{Weighed}
use Rattle.errata.proofs.Solvable.{solved, solved_byte, solved_solves}
pub use Rattle.errata.proofs.Places.{among-few}

-- ---- a row that fits, moved to another row

fits_moved : (lost : ℕ → Bool) (r row t : List ℕ) → length r ≡ 255 → length row ≡ 255 → Bytes r → Bytes row → remainder 239 r ≡ remainder 239 row → Fits lost r t
    → Fits lost row (add t (add r row))
fits_moved lost r row t lr lrow br brow same fit =
    record {
      coded = moved_coded r row t lr lrow fit.coded br brow same;
      known = λ i h k.
          moved_at r row t lr lrow fit.coded i
          ∙ ap (λ (x : ℕ). sum x (sum (get_or r i 0) (get_or row i 0))) (fit.known i h k)
          ∙ sum-again (get_or r i 0) (get_or row i 0);
    }

-- ---- the places

module _ (r at : List ℕ) (n : ℕ) (room : length at ≡ 16) (falling : falling_to at n ≡ true) where
  place_is : (k : ℕ) → k < n → entries (padded (take n at)) k ≡ get_or at k 0
  place_is k h = get_or-listed_0 (λ k. get_or (take n at) k 0) 16 k 0 (omega (arith, falling-few at n falling)) ∙ get_or-take n at k 0 h

  placed : Placed n (padded (take n at))
  placed =
      record {
        few = falling-few at n falling;
        below = λ k h. subst (λ (x : ℕ). x < 255) (sym (place_is k h)) (falling-below at n falling k h);
        apart = λ k l h b e. (falling-placed at n falling).apart k l h b (sym (place_is k (omega arith)) ∙ e ∙ place_is l b);
      }

  module _ (s : List ℕ) (fit : Fits (among at n) r s) where
    abbrev by : ℕ → ℕ
    by a = sum (at_place r a) (at_place s a)

    amount_is : (k : ℕ) → k < n → entries (padded (map by (take n at))) k ≡ by (entries (padded (take n at)) k)
    amount_is k h =
        get_or-listed_0 (λ k. get_or (map by (take n at)) k 0) 16 k 0 (omega (arith, falling-few at n falling))
        ∙ get_d_map by (take n at) k (subst (λ (m : ℕ). k < m) (sym (length-take-le n at (omega (arith, falling-few at n falling, room)))) h)
        ∙ ap by (get_or-take n at k 0 h ∙ sym (place_is k h))

    turning : Turning r s (entries (padded (take n at))) (entries (padded (map by (take n at)))) n
    turning =
        record {
          below = placed.below;
          apart = placed.apart;
          amount = amount_is;
          agree = λ a h off.
              sym (fit.known (254 - a) (omega arith) (not_among at n (254 - a) (λ k b z. off k b (place_is k b ∙ z ∙ back a h))));
        }
      where
        back : (a : ℕ) → a < 255 → 254 - (254 - a) ≡ a
        back a h = omega arith

-- ---- any row that leaves `rest`

module _ (rest at : List ℕ) (n : ℕ) (long : length rest ≡ 16) (bytes : Bytes rest) (room : length at ≡ 16) (falling : falling_to at n ≡ true) where
  -- what holds of all that makes the row one that fits holds of what was told
  by_found : (P : Errata → Type 0) → ((s : List ℕ) → Fits (among at n) (leaving rest) s → (e : Errata) → Some e ≡ filling_for (leaving rest) at n (found s) → P e)
      → (e : Errata) → Some e ≡ filling_of rest at n → P e
  unfolding filling_for
  by_found P all e q = by (restore_of (among at n) (leaving rest)) refl
    where
      by : (a : Repaired) → restore_of (among at n) (leaving rest) ≡ a → P e
      by (found s) f = all s (restore_fits (among at n) (leaving rest) s f) e (q ∙ sym (filling_is rest at n falling (found s) f))
      by none f = absurd (none-some e (sym (q ∙ sym (filling_is rest at n falling none f))))

  -- where something fits, all the places are told
  pub filling_many : (e : Errata) → Some e ≡ filling_of rest at n → e.n ≡ n
  unfolding filling_for
  filling_many = by_found (λ (e : Errata). e.n ≡ n) (λ s fit e q. ap (λ (x : Errata). x.n) (same_Some _ _ q))

  pub filling_placed : (e : Errata) → Some e ≡ filling_of rest at n → Placed e.n e.at
  unfolding filling_for
  filling_placed =
      by_found (λ (e : Errata). Placed e.n e.at)
      (λ s fit e q. subst (λ (x : Errata). Placed x.n x.at) (sym (same_Some _ _ q)) (placed (leaving rest) at n room falling))

  module _ (row : List ℕ) (lrow : length row ≡ 255) (brow : Bytes row) (left : rest ≡ remainder 239 row) where
    same : remainder 239 (leaving rest) ≡ remainder 239 row
    same = sym (leaving_rest rest long) ∙ left

    -- the row is restored by what e adds
    abbrev Restores : Errata → Type 0
    Restores e = restore_of (among at n) row ≡ found (mended_by row (entries e.at) (entries e.values) e.n)

    -- the row that is restored
    pub filling_found : (e : Errata) → Some e ≡ filling_of rest at n → restore_of (among at n) row ≡ found (mended_by row (entries e.at) (entries e.values) e.n)
    unfolding filling_for
    filling_found =
        by_found Restores
        (λ s fit e q.
        let r : List ℕ = leaving rest in
        let lr : length r ≡ 255 = leaving-length rest long in
        subst Restores (sym (same_Some _ _ q))
        (restore_found (among at n) row (add s (add r row)) (among-few at n falling) (fits_moved (among at n) r row s lr lrow (leaving-bytes rest long bytes) brow same fit)
        ∙ ap found (sym (mended_moved (turning r at n room falling s fit) row lr fit.coded.sized lrow))))

    pub filling_none : None ≡ filling_of rest at n → restore_of (among at n) row ≡ none
    unfolding filling_for
    filling_none q = by (restore_of (among at n) (leaving rest)) refl
      where
        by : (a : Repaired) → restore_of (among at n) (leaving rest) ≡ a → restore_of (among at n) row ≡ none
        by (found s) f = absurd (none-some _ (q ∙ sym (filling_is rest at n falling (found s) f)))
        by none f =
            restore_none (among at n) row
            (λ u fit. none-fits (among at n) (leaving rest) f (add u (add row (leaving rest)))
            (fits_moved (among at n) row (leaving rest) u lrow (leaving-length rest long) brow (leaving-bytes rest long bytes) (sym same) fit))

-- ---- sixteen places

module _ (rest at : List ℕ) (long : length rest ≡ 16) (bytes : Bytes rest) (room : length at ≡ 16) (falling : falling_to at 16 ≡ true) where
  abbrev sums : List ℕ
  sums = listed (λ j. value rest (power j)) 16 0

  sum_is : (j : ℕ) → j < 16 → get_or sums j 0 ≡ value rest (power j)
  sum_is j h = get_or-listed_0 (λ j. value rest (power j)) 16 j 0 h

  sums_byte : (j : ℕ) → get_or sums j 0 < 256
  sums_byte j =
      ⊎_elim (λ (h : j < 16). rw (sum_is j h) (value-byte rest (power j)))
      (λ (g : 16 ≤ j). rw (beyond sums j (omega (arith, length-listed (λ j. value rest (power j)) 16 0))) (omega arith)) (cases_lt j 16)

  weighed : Weighed rest sums 16 at (solved at 16 (falling-placed at 16 falling) sums sums_byte)
  weighed =
      let placed = falling-placed at 16 falling in
      record {
        syndromes = record { entry = sum_is };
        placed = placed;
        value-bytes = solved_byte at 16 placed sums sums_byte;
        solved = solved_solves at 16 placed sums sums_byte;
      }

  -- they are as many as there are syndromes: something always fits
  pub sixteen_fit : (e : Option Errata) → e ≡ filling_of rest at 16 → IsSome e
  unfolding filling_for
  sixteen_fit (Some e) q = refl
  sixteen_fit None q = absurd (by (restore_of (among at 16) (leaving rest)) refl)
    where
      by : (a : Repaired) → restore_of (among at 16) (leaving rest) ≡ a → ⊥
      by (found s) f = none-some _ (q ∙ sym (filling_is rest at 16 falling (found s) f))
      by none f = none-fits (among at 16) (leaving rest) f _ (weighed_fits rest at 16 falling long bytes room weighed weighed.solved.solves)

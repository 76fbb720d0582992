-- What is to be added depends on nothing of a row but what it leaves: of two rows that leave the same, one becomes a coded row within eight bytes exactly as the other does.
-- Assumes nothing.
use mathlib.Core.Path.{◌≡◌, refl, sym, ap, subst, ◌∙◌}
use mathlib.Core.Logic.{◌≢◌}
use mathlib.Core.Bool.{Bool, true, false, not}
use mathlib.Core.List.{List}
use Rattle.std.proofs.Common.{Some, None}
use Rattle.std.proofs.lemmas.Option.{none-some, same_Some}
use Prim.Native.Nat.{ℕ, ◌≤◌, ◌<◌}
use native.Mathlib.Omega.{arith}
use borrow.Author.Tests.{eqb-true}
use lib.Dec.{eqb}
use lib.ListN.{length, get_or}
use Rattle.ground.specs.Bits.{sum}
use Rattle.ground.proofs.Listed.{get_or-listed_0}
use Rattle.code.specs.Code.{Bytes, add, distance}
use Rattle.code.specs.Search.{Repaired, remainder}
use Rattle.code.specs.Search.Repaired.{found, none}
use Rattle.code.specs.Repair.{repair_of, Near}
use Rattle.code.proofs.Distance.{nonzeros, nonzeros_add, distance_sym}
use Rattle.code.proofs.Exact.{repair-near, repair-found, repair-none, none-near}
use Rattle.errata.specs.declared.Errata.{Errata}
use Rattle.errata.specs.Errata.{at_place, differing, differences, padded, errata_for, leaving, errata_of}
use Rattle.errata.specs.InnerErrata.{entries, mended_by, Ordered}
use Rattle.errata.proofs.Rising.{Rises, passing_rises}
use Rattle.errata.proofs.Listing.{get_d_map}
use Rattle.errata.proofs.Between.{moved_length, moved_add, moved_coded, Turning, mended_moved}
use Rattle.errata.proofs.Counting.{differing-distance}
use Rattle.errata.proofs.Leaving.{leaving-length, leaving-bytes, leaving_rest}

-- ---- a coded row moved to another row

module _ (r row t : List ℕ) (lr : length r ≡ 255) (lrow : length row ≡ 255) (br : Bytes r) (brow : Bytes row) (same : remainder 239 r ≡ remainder 239 row) (near : Near r t) where
  moved_distance : distance row (add t (add r row)) ≡ distance r t
  moved_distance =
      sym (nonzeros_add row (add t (add r row)) (lrow ∙ sym (moved_length r row t lr lrow near.coded)))
      ∙ ap nonzeros (moved_add r row t lr lrow near.coded)
      ∙ nonzeros_add t r (near.coded.sized ∙ sym lr)
      ∙ distance_sym t r

  near_moved : Near row (add t (add r row))
  near_moved = record { coded = moved_coded r row t lr lrow near.coded br brow same; close = omega (arith, moved_distance, near.close) }

-- ---- what turns r into s, added to another row

module _ (r s : List ℕ) (lr : length r ≡ 255) (ls : length s ≡ 255) (close : distance r s ≤ 8) where
  abbrev n : ℕ
  n = length (differing r s)

  abbrev at : ℕ → ℕ
  at k = entries (padded (differing r s)) k

  abbrev amount : ℕ → ℕ
  amount k = entries (padded (differences r s)) k

  abbrev differ : ℕ → Bool
  differ a = not (eqb (at_place r a) (at_place s a))

  few : n ≤ 8
  few = omega (arith, differing-distance r s lr ls)

  listing : Rises differ n (λ k. get_or (differing r s) k 0)
  unfolding differing
  listing = passing_rises differ

  at_is : (k : ℕ) → k < n → at k ≡ get_or (differing r s) k 0
  at_is k h = get_or-listed_0 (λ k. get_or (differing r s) k 0) 16 k 0 (omega (arith, few))

  amount_is : (k : ℕ) → k < n → amount k ≡ sum (at_place r (at k)) (at_place s (at k))
  unfolding differences
  amount_is k h =
      get_or-listed_0 (λ k. get_or (differences r s) k 0) 16 k 0 (omega (arith, few))
      ∙ get_d_map (λ (a : ℕ). sum (at_place r a) (at_place s a)) (differing r s) k h
      ∙ ap (λ (a : ℕ). sum (at_place r a) (at_place s a)) (sym (at_is k h))

  ordered : Ordered n (padded (differing r s))
  ordered =
      record {
        few = few;
        below = λ k h. omega (arith, at_is k h, listing.below k h);
        rising = λ j k b h. omega (arith, at_is j (omega arith), at_is k h, listing.rising j k b h);
      }

  -- elsewhere they agree
  agree : (a : ℕ) → a < 255 → ((k : ℕ) → k < n → at k ≢ a) → at_place r a ≡ at_place s a
  agree a b off = by (eqb (at_place r a) (at_place s a)) refl
    where
      by : (t : Bool) → eqb (at_place r a) (at_place s a) ≡ t → at_place r a ≡ at_place s a
      by true e = eqb-true (at_place r a) (at_place s a) e
      by false e = let k = listing.all a b (ap not e) in absurd (off k.0 k.1 (at_is k.0 k.1 ∙ k.2))

  turning : Turning r s at amount n
  turning = record { below = ordered.below; apart = λ j k b h e. omega (arith, ordered.rising j k b h); amount = amount_is; agree = agree }

-- ---- any row that leaves `rest`

-- a row is repaired to `fixed`, from which it differs in n bytes
pub record Found (row fixed : List ℕ) (n : ℕ) : Type 0 where
  pub answered : repair_of row ≡ found fixed
  pub counted : n ≡ distance row fixed

module _ (rest : List ℕ) (long : length rest ≡ 16) (bytes : Bytes rest) where
  pub errata_ordered : (e : Errata) → Some e ≡ errata_of rest → Ordered e.n e.at
  unfolding errata_of errata_for
  errata_ordered e = by (repair_of (leaving rest)) refl
    where
      by : (a : Repaired) → repair_of (leaving rest) ≡ a → Some e ≡ errata_for (leaving rest) a → Ordered e.n e.at
      by (found s) f q =
          let near : Near (leaving rest) s = repair-near (leaving rest) s f in
          subst (λ (e : Errata). Ordered e.n e.at) (sym (same_Some _ _ q)) (ordered (leaving rest) s (leaving-length rest long) near.coded.sized near.close)
      by none f q = absurd (none-some e (sym q))

  module _ (row : List ℕ) (lrow : length row ≡ 255) (brow : Bytes row) (left : rest ≡ remainder 239 row) where
    same : remainder 239 (leaving rest) ≡ remainder 239 row
    same = sym (leaving_rest rest long) ∙ left

    -- the row that is found, and as many places as it and the row differ in
    pub errata_found : (e : Errata) → Some e ≡ errata_of rest → Found row (mended_by row (entries e.at) (entries e.values) e.n) e.n
    unfolding errata_of errata_for
    errata_found e = by (repair_of (leaving rest)) refl
      where
        by : (a : Repaired) → repair_of (leaving rest) ≡ a → Some e ≡ errata_for (leaving rest) a → Found row (mended_by row (entries e.at) (entries e.values) e.n) e.n
        by (found s) f q =
            let r : List ℕ = leaving rest in
            let lr : length r ≡ 255 = leaving-length rest long in
            let br : Bytes r = leaving-bytes rest long bytes in
            let near : Near r s = repair-near r s f in
            let moved = mended_moved (turning r s lr near.coded.sized near.close) row lr near.coded.sized lrow in
            subst (λ (e : Errata). Found row (mended_by row (entries e.at) (entries e.values) e.n) e.n) (sym (same_Some _ _ q))
            (record {
              answered = repair-found row (add s (add r row)) lrow brow (near_moved r row s lr lrow br brow same near) ∙ ap found (sym moved);
              counted = differing-distance r s lr near.coded.sized ∙ sym (moved_distance r row s lr lrow br brow same near) ∙ ap (distance row) (sym moved);
            })
        by none f q = absurd (none-some e (sym q))

    pub errata_none : None ≡ errata_of rest → repair_of row ≡ none
    unfolding errata_of errata_for
    errata_none = by (repair_of (leaving rest)) refl
      where
        by : (a : Repaired) → repair_of (leaving rest) ≡ a → None ≡ errata_for (leaving rest) a → repair_of row ≡ none
        by (found s) f q = absurd (none-some _ q)
        by none f q =
            repair-none row lrow brow
            (λ t near. none-near (leaving rest) (leaving-length rest long) (leaving-bytes rest long bytes) f (add t (add row (leaving rest)))
            (near_moved row (leaving rest) t lrow (leaving-length rest long) brow (leaving-bytes rest long bytes) (sym same) near))

-- What was solved for at given places is what the definition says (`filling_of`, specs/Restoring.antt): where the values give all sixteen syndromes the row with them is coded and has
-- every known byte; and where there is such a row, they do.
-- Assumes nothing.
use mathlib.Core.Path.{◌≡◌, refl, sym, ap, subst, ◌∙◌}
use mathlib.Core.Bool.{Bool, true, false, cond}
use mathlib.Core.List.{List, map}
use Rattle.std.proofs.Common.{Some, None}
use Prim.Native.Nat.{ℕ, zero, suc, ◌-◌, ◌≤◌, ◌<◌}
use native.Mathlib.Nat.{le_refl, le_trans, le-suc}
use native.Mathlib.Omega.{arith}
use lib.ListN.{length, get_or, set, take, length-map}
use lib.Seq.{set-get_or, length-take-le, get_or-take}
use Rattle.ground.specs.Bits.{sum}
use Rattle.ground.proofs.Sums.{sum_zero}
use Rattle.ground.proofs.Listed.{zeros_at}
use Rattle.code.specs.Code.{Bytes}
use Rattle.code.specs.Search.{Repaired}
use Rattle.code.specs.Search.Repaired.{found, none}
use Rattle.code.specs.Restore.{Fits, restore_of}
use Rattle.code.proofs.Lists.{zeros, sum-again}
use Rattle.code.proofs.Division.{remainder-coded}
use Rattle.code.proofs.Restored.{restore_found, restore_none}
use Rattle.errata.specs.declared.Errata.{Errata}
use Rattle.errata.specs.Errata.{at_place, padded, leaving}
use Rattle.errata.specs.Restoring.{falling_to, among, filling_for, filling_of}
use Rattle.errata.specs.InnerErrata.{entries, mended_by, Gives}
use Rattle.errata.specs.InnerRestoring.{Filled}
use Rattle.errata.proofs.Mending.{mended_off, Weighed, mended-coded, agreed}
use Rattle.errata.proofs.Listing.{mended-on, get_d_map, all-padded}
use Rattle.errata.proofs.Leaving.{leaving-length, leaving-bytes, leaving_rest}
use Rattle.errata.proofs.Places.{falling-few, falling-below, falling-placed, among_none, not_among, among-few}
use Rattle.errata.proofs.Fronts.{front-padded}

-- a row with nothing added stays
mended_idle : (row : List ℕ) (a c : ℕ → ℕ) (n : ℕ) → ((k : ℕ) → k < n → c k ≡ 0) → mended_by row a c n ≡ row
unfolding mended_by
mended_idle row a c zero idle = refl
mended_idle row a c (suc n) idle =
    let l : List ℕ = mended_by row a c n in
    ap (set l (254 - a n)) (ap (sum (get_or l (254 - a n) 0)) (idle n (le_refl (suc n))) ∙ sum_zero (get_or l (254 - a n) 0))
    ∙ set-get_or l (254 - a n) 0
    ∙ mended_idle row a c n (λ k h. idle k (le_trans h (le-suc n)))

module _ (rest at : List ℕ) (n : ℕ) where
  pub not_falling : falling_to at n ≡ false → None ≡ filling_of rest at n
  unfolding filling_of filling_for
  not_falling f = ap (λ (b : Bool). filling_for (leaving rest) at n (cond b (restore_of (among at n) (leaving rest)) none)) (sym f)

  module _ (falling : falling_to at n ≡ true) where
    pub filling_is : (a : Repaired) → restore_of (among at n) (leaving rest) ≡ a → filling_for (leaving rest) at n a ≡ filling_of rest at n
    unfolding filling_of
    filling_is a e =
        sym (ap (λ (b : Bool). filling_for (leaving rest) at n (cond b (restore_of (among at n) (leaving rest)) none)) falling ∙ ap (filling_for (leaving rest) at n) e)

    pub unfilled_told : ((t : List ℕ) → Fits (among at n) (leaving rest) t → ⊥) → None ≡ filling_of rest at n
    unfolding filling_for
    unfilled_told nobody = filling_is none (restore_none (among at n) (leaving rest) nobody)

    module _ (long : length rest ≡ 16) (bytes : Bytes rest) (room : length at ≡ 16) where
      few : n ≤ length at
      few = omega (arith, falling-few at n falling, room)

      -- the values that make the row one that fits
      module _ (c : List ℕ) (fit : Fits (among at n) (leaving rest) (mended_by (leaving rest) (entries at) (entries c) n)) where
        abbrev by : ℕ → ℕ
        by a = sum (at_place (leaving rest) a) (at_place (mended_by (leaving rest) (entries at) (entries c) n) a)

        by_place : (k : ℕ) → k < n → get_or c k 0 ≡ by (get_or at k 0)
        by_place k h =
            sym (ap (sum (at_place (leaving rest) (get_or at k 0)))
            (mended-on (leaving rest) (leaving-length rest long) (entries at) (entries c) n (falling-below at n falling) (falling-placed at n falling).apart k h)
            ∙ sum-again (at_place (leaving rest) (get_or at k 0)) (get_or c k 0))

        by_entry : (k : ℕ) → k < n → get_or c k 0 ≡ get_or (map by (take n at)) k 0
        by_entry k h =
            by_place k h
            ∙ ap by (sym (get_or-take n at k 0 h))
            ∙ sym (get_d_map by (take n at) k (subst (λ (m : ℕ). k < m) (sym (length-take-le n at few)) h))

        pub filled-told : (e : Errata) → Filled at c n e → Some e ≡ filling_of rest at n
        unfolding filling_for
        filled-told e f =
            let s : List ℕ = mended_by (leaving rest) (entries at) (entries c) n in
            let p : e.at ≡ padded (take n at) = front-padded few f.places in
            let v : e.values ≡ padded (map by (take n at)) =
            all-padded n e.values (map by (take n at)) f.amounts.sized (length-map (take n at) by ∙ length-take-le n at few)
            (λ k h. f.amounts.kept k h ∙ by_entry k h) f.amounts.behind in
            let q : Some e ≡ filling_for (leaving rest) at n (found s) = λ i. Some (record { n = f.many i; at = p i; values = v i }) in
            q ∙ filling_is (found s) (restore_found (among at n) (leaving rest) s (among-few at n falling) fit)

      -- a row that leaves nothing is coded as it is
      pub nothing-fits : rest ≡ zeros 16 → Fits (among at n) (leaving rest) (mended_by (leaving rest) (entries at) (entries rest) n)
      nothing-fits nought =
          subst (Fits (among at n) (leaving rest))
          (sym (mended_idle (leaving rest) (entries at) (entries rest) n (λ k h. ap (λ (l : List ℕ). get_or l k 0) nought ∙ zeros_at 16 k)))
          (record {
            coded = remainder-coded (leaving rest) (leaving-length rest long) (leaving-bytes rest long bytes) (sym (leaving_rest rest long) ∙ nought);
            known = λ i h k. refl;
          })

      module _ {s c : List ℕ} (weighed : Weighed rest s n at c) where
        pub weighed_fits : Gives s at c n → Fits (among at n) (leaving rest) (mended_by (leaving rest) (entries at) (entries c) n)
        weighed_fits agree =
            record {
              coded = mended-coded weighed (leaving rest) (leaving-length rest long) (leaving-bytes rest long bytes) (leaving_rest rest long) agree;
              known = λ i h off.
                  mended_off (leaving rest) (leaving-length rest long) (entries at) (entries c) n i
                  (λ k b z. among_none at n i off k b (omega (arith, falling-below at n falling k b)));
            }

        fits_weighed : (t : List ℕ) → Fits (among at n) (leaving rest) t → Gives s at c n
        fits_weighed t fit =
            agreed weighed (leaving rest) (leaving-length rest long) (leaving-bytes rest long bytes) (leaving_rest rest long) t fit.coded
            (λ i h off. sym (fit.known i h (not_among at n i (λ k b z. off k b (omega arith)))))

        pub given_none : (Gives s at c n → ⊥) → None ≡ filling_of rest at n
        given_none nobody = unfilled_told (λ t fit. nobody (fits_weighed t fit))

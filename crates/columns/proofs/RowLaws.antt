-- A row of a place in column order: what came of it, and what is to be filled in, say what the definitions say of it.
-- Assumes nothing.
use mathlib.Core.Path.{◌≡◌, refl, sym, ap, ap₂, subst, ◌∙◌}
use mathlib.Core.Bool.{Bool, true, false}
use Rattle.std.proofs.Common.{Some, None}
use mathlib.Core.List.{List}
use Prim.Native.Nat.{ℕ, ◌≤◌, ◌<◌}
use borrow.Author.Tests.{lt-ltb, le-ltb}
use lib.ListN.{length}
use Rattle.ground.proofs.Listed.{length-listed}
use Rattle.code.specs.Code.{Bytes}
use Rattle.code.specs.Search.{remainder}
use Rattle.code.specs.Search.Repaired.{found, none}
use Rattle.code.specs.Restore.{lost_of, restore_of}
use Rattle.code.proofs.Division.{length-remainder, remainder-bytes}
use Rattle.code.proofs.Restored.{restore_same}
use Rattle.errata.specs.declared.Errata.{Errata}
use Rattle.errata.specs.Restoring.{falling_to, among, filling_of}
use Rattle.errata.specs.InnerErrata.{entries, mended_by, Placed}
use Rattle.errata.proofs.Filled.{filling_placed, filling_found, filling_none}
use Rattle.places.specs.declared.Place.{Place}
use Rattle.contents.specs.Contents.{contents}
use Rattle.losses.specs.declared.Came.{Came}
use Rattle.losses.specs.Losses.{came_at, sent_at, row_came, lost_in, lost_places, tabled, came_of}
use Rattle.losses.proofs.Tabling.{came_row, came_lost, came_places}
use Rattle.columns.specs.Columns.{lacks, row_restored}
use Rattle.columns.proofs.Gone.{length-places, places_fall, among-lost}

-- ---- what came

module _ (p : Place) (s : List ℕ) (fits : tabled p (length s) ≡ true) (q : ℕ) (c : Came) (told : c ≡ came_of p s q) where
  abbrev gone : ℕ → Bool
  gone = lost_in p.rows p.slot (contents p s) q

  row_is : c.row ≡ row_came p.rows p.slot (contents p s) q
  row_is = ap (λ (x : Came). x.row) told ∙ came_row p s q fits

  lost_is : c.lost ≡ lost_of gone 255
  lost_is = ap (λ (x : Came). x.lost) told ∙ came_lost p s q fits

  at_is : c.at ≡ lost_places gone
  at_is = ap (λ (x : Came). x.at) told ∙ came_places p s q fits

  pub row-long : length c.row ≡ 255
  unfolding row_came
  row-long = ap length row_is ∙ length-listed (λ k. came_at p.slot (contents p s) (sent_at p.rows q k)) 255 0

  pub row-lacks : 16 < c.lost → lacks p.rows p.slot (contents p s) q ≡ true
  unfolding lacks
  row-lacks h = lt-ltb 16 (lost_of gone 255) (subst (λ (n : ℕ). 16 < n) lost_is h)

  module _ (few : c.lost ≤ 16) where
    few-gone : lost_of gone 255 ≤ 16
    few-gone = subst (λ (n : ℕ). n ≤ 16) lost_is few

    pub row-full : lacks p.rows p.slot (contents p s) q ≡ false
    unfolding lacks
    row-full = le-ltb 16 (lost_of gone 255) few-gone

    room : length c.at ≡ 16
    room = ap length at_is ∙ length-places gone

    falling : falling_to c.at c.lost ≡ true
    falling = ap₂ falling_to at_is lost_is ∙ places_fall gone few-gone

    -- restored with what was lost
    restored_by : restore_of (among c.at c.lost) c.row ≡ row_restored p.rows p.slot (contents p s) q
    unfolding row_restored
    restored_by =
        restore_same (among c.at c.lost) gone c.row c.row
        (λ k h. ap₂ (λ (l : List ℕ) (n : ℕ). among l n k) at_is lost_is ∙ among-lost gone few-gone k h) (λ k h e. refl)
        ∙ ap (restore_of gone) row_is

    module _ (bytes : Bytes c.row) where
      rest_long : length (remainder 239 c.row) ≡ 16
      rest_long = length-remainder 239 c.row row-long

      rest_bytes : Bytes (remainder 239 c.row)
      rest_bytes = remainder-bytes 239 c.row bytes

      module _ (e : Errata) (filled : Some e ≡ filling_of (remainder 239 c.row) c.at c.lost) where
        pub row-placed : Placed e.n e.at
        row-placed = filling_placed (remainder 239 c.row) c.at c.lost rest_long rest_bytes room falling e filled

        pub row-found : row_restored p.rows p.slot (contents p s) q ≡ found (mended_by c.row (entries e.at) (entries e.values) e.n)
        row-found =
            sym restored_by ∙ filling_found (remainder 239 c.row) c.at c.lost rest_long rest_bytes room falling c.row row-long bytes refl e filled

      pub row-none : None ≡ filling_of (remainder 239 c.row) c.at c.lost → row_restored p.rows p.slot (contents p s) q ≡ none
      row-none unfilled =
          sym restored_by ∙ filling_none (remainder 239 c.row) c.at c.lost rest_long rest_bytes room falling c.row row-long bytes refl unfilled

-- Places whose rows can be gathered (`tabled`, specs/Losses.antt): the tests, and what came in either case.
-- Assumes nothing.
use mathlib.Core.Path.{◌≡◌, refl}
use mathlib.Core.Bool.{true, false, not, ◌&&◌}
use mathlib.Core.List.{List}
use Prim.Native.Nat.{ℕ, ◌<◌}
use native.Mathlib.Omega.{arith}
use borrow.Author.Tests.{leb-true, eqb-false, not-true}
use lib.Dec.{eqb, leb}
use lib.ListN.{length, replicate}
use Rattle.std.proofs.lemmas.Bool.{and_parts}
use Rattle.code.specs.Restore.{lost_of}
use Rattle.places.specs.declared.Place.{Place}
use Rattle.places.specs.Places.{end_of}
use Rattle.contents.specs.Contents.{contents}
use Rattle.losses.specs.declared.Came.{Came}
use Rattle.losses.specs.Losses.{row_came, lost_in, lost_places, came_by, tabled, came_of}
use Rattle.losses.specs.InnerRuns.{Tabled}

module _ (p : Place) (size : ℕ) where
  some : (n : ℕ) → not (eqb n 0) ≡ true → 0 < n
  some n t = let d = eqb-false n 0 (not-true (eqb n 0) t) in omega arith

  pub tabled_facts : tabled p size ≡ true → Tabled p size
  unfolding tabled
  tabled_facts t =
      let a = and_parts (leb (end_of p) size) (not (eqb p.rows 0) && not (eqb p.slot 0)) t in
      let b = and_parts (not (eqb p.rows 0)) (not (eqb p.slot 0)) a.1 in
      record { ends = leb-true (end_of p) size a.0; rows = some p.rows b.0; slot = some p.slot b.1 }

module _ (p : Place) (s : List ℕ) (q : ℕ) where
  pub came_nothing : tabled p (length s) ≡ false → ◌≡◌ {A = Came} (record { row = replicate 255 0; lost = 0; at = replicate 16 0 }) (came_of p s q)
  unfolding came_of
  came_nothing t = rw t refl

  pub came_tabled : tabled p (length s) ≡ true → came_by (lost_in p.rows p.slot (contents p s) q) (row_came p.rows p.slot (contents p s) q) ≡ came_of p s q
  unfolding came_of
  came_tabled t = rw t refl

  -- each part of it
  pub came_row : tabled p (length s) ≡ true → (came_of p s q).row ≡ row_came p.rows p.slot (contents p s) q
  unfolding came_of came_by
  came_row t = rw t refl

  pub came_lost : tabled p (length s) ≡ true → (came_of p s q).lost ≡ lost_of (lost_in p.rows p.slot (contents p s) q) 255
  unfolding came_of came_by
  came_lost t = rw t refl

  pub came_places : tabled p (length s) ≡ true → (came_of p s q).at ≡ lost_places (lost_in p.rows p.slot (contents p s) q)
  unfolding came_of came_by
  came_places t = rw t refl

-- The whole file: what came and what was lost is all there is, and bytes that are what they are to be are the file. Where no slot is empty nothing is lost.
-- Assumes nothing.
use mathlib.Core.Path.{◌≡◌, refl, sym, ap, ◌∙◌}
use mathlib.Core.Logic.{◌⊎◌, inl, inr}
use mathlib.Core.Bool.{Bool, true, false}
use mathlib.Core.List.{List, ◌++◌}
use Prim.Native.Nat.{ℕ, ◌+◌, ◌*◌, ◌/◌, ◌<◌, ◌≤◌}
use native.Mathlib.Omega.{arith}
use borrow.Author.Tests.{ne_eqb}
use lib.ListN.{length, get_or, drop}
use Rattle.ground.specs.Lists.{listed}
use Rattle.ground.proofs.Listed.{get_or-listed_0, listed_ext}
use Rattle.ground.proofs.Truth.{differ}
use Rattle.layout.specs.Layout.{Spot, tables_of, sent_spot, read_back, undone}
use Rattle.places.specs.declared.Place.{Place}
use Rattle.contents.specs.Contents.{contents, slot_at}
use Rattle.contents.specs.Slots.{length_at}
use Rattle.contents.proofs.Filled.{filled-all, lowest-nothing}
use Rattle.contents.proofs.Places.{length-contents, reading_slots}
use Rattle.contents.proofs.Slots.{slot-empty}
use Rattle.standing.specs.declared.Seen.{Seen}
use Rattle.standing.specs.Survey.{seen_of}
use Rattle.standing.proofs.SurveyLaws.{Tallied, seen_right, seen_not}
use Rattle.losses.specs.Losses.{lost_at}
use Rattle.columns.specs.Columns.{sent_length, row_restored, row_in, restored}
use Rattle.columns.specs.InnerWrite.{Writable}
use Rattle.columns.specs.InnerBytes.{sent_of, aim_of, Known, LostBelow, Nearer}
use Rattle.columns.proofs.Nearing.{nearer_then, nearer_all}
use Rattle.columns.proofs.Standings.{sent_below, sent_back, number-below}
use Rattle.columns.proofs.Coming.{slot-below, slot-lost}
use Rattle.std.specs.Prelude.{Some, None, Option, IsSome}

module _ (p : Place) (s : List ℕ) (n : ℕ) (w : Writable p s n) where
  abbrev sent : List ℕ
  sent = restored p.rows p.slot (contents p s) (sent_length p.rows n)

  -- a byte of a row, by its spot
  abbrev byte_of : Spot → ℕ
  byte_of x = get_or (row_in (row_restored p.rows p.slot (contents p s) (x.table * p.rows + x.row))) x.column 0

  aim_read : (i : ℕ) → i < n → aim_of p s i ≡ read_back 1 p.rows sent i
  unfolding restored aim_of
  aim_read i b =
      sym
      (get_or-listed_0 (λ j. byte_of (sent_spot 1 p.rows j)) (sent_length p.rows n) (sent_of p.rows i) 0 (sent_below p.rows w.rows n i b)
      ∙ ap byte_of (sent_back p.rows w.rows n i b))

  file_is : listed (aim_of p s) n 0 ≡ undone 1 p.rows sent n 0
  file_is = listed_ext (aim_of p s) (read_back 1 p.rows sent) n 0 (λ i a b. aim_read i (omega arith))

  -- every byte is what it is to be
  pub all-written : (P : ℕ → Type 0) (before after : List ℕ) → Nearer (aim_of p s) n P before after → ((i : ℕ) → i < n → P i) → n ≤ length before
      → after ≡ undone 1 p.rows sent n 0 ++ drop n before
  all-written P before after u each room =
      nearer_all (aim_of p s) n P before after u each room ∙ ap (λ (x : List ℕ). x ++ drop n before) file_is

  -- what came, then what is lost
  either : (i : ℕ) → i < n → Known p s i ⊎ LostBelow p s (p.rows * tables_of p.rows n) i
  either i b = by (lost_at p.slot (contents p s) (sent_of p.rows i)) refl
    where
      by : (x : Bool) → lost_at p.slot (contents p s) (sent_of p.rows i) ≡ x → Known p s i ⊎ LostBelow p s (p.rows * tables_of p.rows n) i
      by true e = inr (number-below p.rows w.rows n i b, e)
      by false e = inl e

  pub both-written : (before mid after : List ℕ) → Nearer (aim_of p s) n (Known p s) before mid
      → Nearer (aim_of p s) n (LostBelow p s (p.rows * tables_of p.rows n)) mid after → n ≤ length before
      → after ≡ undone 1 p.rows sent n 0 ++ drop n before
  both-written before mid after u v room =
      all-written (λ i. i < n) before after
      (nearer_then (aim_of p s) n (Known p s) (LostBelow p s (p.rows * tables_of p.rows n)) (λ i. i < n) before mid after u v (λ i h x. either i h)) (λ i h. h) room

  -- ---- no slot is empty

  pub surveyed : (o : Option Seen) → o ≡ seen_of p s → IsSome o
  surveyed None e = differ (sym (seen_not p s w.ends None e refl) ∙ w.right)
  surveyed (Some t) e = refl

  module _ (o : Option Seen) (t : Seen) (e : o ≡ seen_of p s) (is : o ≡ Some t) (full : t.filled ≡ p.count) where
    tallied : Tallied p (contents p s) t
    tallied = seen_right p s w.ends o t e is

    some : (k : ℕ) → k < p.count → length_at s (slot_at p k) ≡ 0 → ⊥
    some k h z =
        lowest-nothing (contents p s) 0 (filled-all (contents p s) 0 (sym tallied.filled ∙ full ∙ sym (length-contents p s))).1 k (omega (arith, length-contents p s))
        (reading_slots p s k h ∙ slot-empty p s k z)

    all_known : (i : ℕ) → i < n → Known p s i
    all_known i b =
        let j : ℕ = sent_of p.rows i in
        let h : j / p.slot < p.count = slot-below p s n w j (sent_below p.rows w.rows n i b) in
        slot-lost p s n w (j / p.slot) h j refl ∙ ne_eqb (length_at s (slot_at p (j / p.slot))) 0 (some (j / p.slot) h)

    pub known_written : (before after : List ℕ) → Nearer (aim_of p s) n (Known p s) before after → n ≤ length before → after ≡ undone 1 p.rows sent n 0 ++ drop n before
    known_written before after u room = all-written (Known p s) before after u all_known room

-- Hand out of a place in column order, case by case, in the order of its refusals: 9, 15, 23, 22, 31, 32, 24, 26.
-- Assumes nothing.
use mathlib.Core.Path.{◌≡◌, refl, sym, ap, ◌∙◌}
use mathlib.Core.Bool.{true, false}
use mathlib.Core.List.{List}
use Prim.Native.Nat.{ℕ, ◌-◌, ◌*◌}
use lib.ListN.{length}
use Rattle.ground.proofs.Truth.{differ}
use Rattle.refusals.specs.declared.Refusal.{Refusal}
use Rattle.refusals.specs.declared.Refusal.TheVariants.{Slot, Shape, Size, Lost, Code, Padding}
use Rattle.layout.specs.Layout.{tables_of, undone}
use Rattle.places.specs.declared.Place.{Place}
use Rattle.places.specs.Room.{lowest_from}
use Rattle.contents.specs.Contents.{contents, any_wrong}
use Rattle.losses.specs.Losses.{tabled}
use Rattle.columns.specs.Handing.{Handing, refusing, handed, all_zero, hand_tables}
use Rattle.columns.specs.Columns.{sent_length, length_serves, misfits, lacks, uncoded, restored, hand_coded, hand_full, hand_shaped, hand_columns, hand_columns_of}
use Rattle.columns.specs.InnerJudge.{Serving, Shaped, is_nothing, hand_judged}
use Rattle.columns.proofs.Lowest.{nothing_is}
use Rattle.columns.proofs.LengthLaws.{serves-known, tabled-known}
use Rattle.std.specs.Prelude.{Result}
use Rattle.std.specs.Prelude.{Option}
use Rattle.std.specs.Prelude.{Some, None}

-- an answer and an output are those of h
abbrev pub Comes : Handing → Result (Unit {0}) Refusal → List ℕ → Type 0
Comes h answer output = (answer ≡ h.answer) × (output ≡ h.output)

pub comes : {h : Handing} (g : Handing) → h ≡ g → Comes h g.answer g.output
comes g e = (ap (λ (x : Handing). x.answer) (sym e), ap (λ (x : Handing). x.output) (sym e))

-- the same from another
pub comes_from : {h g : Handing} {answer : (Result (Unit {0}) Refusal)} {output : List ℕ} → h ≡ g → Comes g answer output → Comes h answer output
comes_from e c = (c.0 ∙ ap (λ (x : Handing). x.answer) (sym e), c.1 ∙ ap (λ (x : Handing). x.output) (sym e))

-- ---- by the lengths

module _ (p : Place) (s : List ℕ) (n : ℕ) (out : List ℕ) where
  pub columns_record : tabled p (length s) ≡ false → hand_columns_of p s n out ≡ refusing Refusal.Record out
  unfolding hand_columns_of
  columns_record e = rw e

  module _ (t : tabled p (length s) ≡ true) where
    pub columns_slot : any_wrong (contents p s) ≡ true → hand_columns_of p s n out ≡ refusing Slot out
    unfolding hand_columns_of
    columns_slot w = rw (t, w)

    module _ (w : any_wrong (contents p s) ≡ false) where
      pub columns_size : length_serves p n ≡ false → hand_columns_of p s n out ≡ refusing Size out
      unfolding hand_columns_of hand_columns
      columns_size l = rw (t, w, l)

      module _ (l : length_serves p n ≡ true) where
        by_shape : hand_columns_of p s n out ≡ hand_shaped p (contents p s) n out (lowest_from (misfits p.slot (sent_length p.rows n) (contents p s)) 0 p.count)
        unfolding hand_columns_of hand_columns
        by_shape = rw (t, w, l)

        pub served : Serving p s n
        served = record { place = tabled-known p s t; right = w; serves = l; most = (serves-known p n l).most }

        pub columns_shape : is_nothing (lowest_from (misfits p.slot (sent_length p.rows n) (contents p s)) 0 p.count) ≡ false → hand_columns_of p s n out ≡ refusing Shape out
        columns_shape e = by_shape ∙ by (lowest_from (misfits p.slot (sent_length p.rows n) (contents p s)) 0 p.count) e
          where
            by : (o : Option ℕ) → is_nothing o ≡ false → hand_shaped p (contents p s) n out o ≡ refusing Shape out
            by (Some k) e = refl
            by None e = differ e

        module _ (e : is_nothing (lowest_from (misfits p.slot (sent_length p.rows n) (contents p s)) 0 p.count) ≡ true) where
          none : lowest_from (misfits p.slot (sent_length p.rows n) (contents p s)) 0 p.count ≡ None
          none = nothing_is (lowest_from (misfits p.slot (sent_length p.rows n) (contents p s)) 0 p.count) e

          pub shaped : Shaped p s n
          shaped = record { serving = served; shaped = none }

          pub columns_shaped : hand_columns_of p s n out ≡ hand_judged p s n out
          unfolding hand_judged
          columns_shaped = by_shape ∙ ap (hand_shaped p (contents p s) n out) none

-- ---- by the rows

module _ (p : Place) (s : List ℕ) (n : ℕ) (out : List ℕ) where
  -- the first row that lacks more than sixteen bytes, whatever else is wrong
  pub judged-lost : (q : ℕ) → lowest_from (lacks p.rows p.slot (contents p s)) 0 (p.rows * tables_of p.rows n) ≡ Some q → hand_judged p s n out ≡ refusing (Lost q) out
  unfolding hand_judged
  judged-lost q e = ap (hand_full p (contents p s) n out) e

  module _ (l : lowest_from (lacks p.rows p.slot (contents p s)) 0 (p.rows * tables_of p.rows n) ≡ None) where
    by_code : hand_judged p s n out ≡ hand_coded p (contents p s) n out (lowest_from (uncoded p.rows p.slot (contents p s)) 0 (p.rows * tables_of p.rows n))
    unfolding hand_judged
    by_code = ap (hand_full p (contents p s) n out) l

    -- then a row that fits no coded row
    pub judged_code : is_nothing (lowest_from (uncoded p.rows p.slot (contents p s)) 0 (p.rows * tables_of p.rows n)) ≡ false → hand_judged p s n out ≡ refusing Code out
    judged_code e = by_code ∙ by (lowest_from (uncoded p.rows p.slot (contents p s)) 0 (p.rows * tables_of p.rows n)) e
      where
        by : (o : Option ℕ) → is_nothing o ≡ false → hand_coded p (contents p s) n out o ≡ refusing Code out
        by (Some q) e = refl
        by None e = differ e

    module _ (u : is_nothing (lowest_from (uncoded p.rows p.slot (contents p s)) 0 (p.rows * tables_of p.rows n)) ≡ true) where
      abbrev sent : List ℕ
      sent = restored p.rows p.slot (contents p s) (sent_length p.rows n)

      by_padding : hand_judged p s n out ≡ hand_tables 1 p.rows sent n out
      by_padding =
          by_code
          ∙ ap (hand_coded p (contents p s) n out) (nothing_is (lowest_from (uncoded p.rows p.slot (contents p s)) 0 (p.rows * tables_of p.rows n)) u)

      -- then the padding
      pub judged_padding : all_zero (undone 1 p.rows sent (239 * p.rows * tables_of p.rows n - n) n) ≡ false → hand_judged p s n out ≡ refusing Padding out
      unfolding hand_tables
      judged_padding z = by_padding ∙ rw z refl

      -- and then the output's room alone
      pub judged-whole : all_zero (undone 1 p.rows sent (239 * p.rows * tables_of p.rows n - n) n) ≡ true → hand_judged p s n out ≡ handed (undone 1 p.rows sent n 0) out
      unfolding hand_tables
      judged-whole z = by_padding ∙ rw z refl

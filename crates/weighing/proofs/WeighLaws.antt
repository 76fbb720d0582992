-- What the pass over the rows found, as the answer that it makes: 31, 32 and 24 in this order, and otherwise that nothing is refused.
-- Assumes nothing.
use mathlib.Core.Path.{◌≡◌, refl, sym, ◌∙◌}
use mathlib.Core.Bool.{Bool, true, false}
use mathlib.Core.List.{List}
use Prim.Native.Nat.{ℕ, ◌-◌, ◌*◌, ◌≤◌}
use lib.ListN.{replicate}
use Rattle.std.specs.Prelude.{Some, None, Result, Err}
use Rattle.refusals.specs.declared.Refusal.{Refusal}
use Rattle.refusals.specs.declared.Refusal.TheVariants.{Lost, Code, Padding}
use Rattle.layout.specs.Layout.{tables_of, undone}
use Rattle.places.specs.declared.Place.{Place}
use Rattle.places.specs.Room.{lowest_from}
use Rattle.contents.specs.Contents.{contents}
use Rattle.columns.specs.Handing.{refusing, all_zero}
use Rattle.columns.specs.Columns.{sent_length, lacks, uncoded, restored, hand_columns_of, weighed_of}
use Rattle.columns.specs.InnerJudge.{is_nothing, hand_judged}
use Rattle.columns.proofs.PaddingLaws.{padding_told}
use Rattle.columns.proofs.HandLaws.{judged-lost, judged_code, judged_padding, judged-whole}
use Rattle.columns.proofs.Weighed.{weighed_as, weighed_whole}
use Rattle.weighing.proofs.JudgeLaws.{Judging, verdict, none_lacks, all_coded, all_clear}

module _ (p : Place) (s : List ℕ) (n : ℕ) (same : hand_columns_of p s n (replicate n 0) ≡ hand_judged p s n (replicate n 0)) (h : 1 ≤ p.rows) where
  abbrev rows : ℕ
  rows = p.rows * tables_of p.rows n

  pub weighed_lost : (q : ℕ) → lowest_from (lacks p.rows p.slot (contents p s)) 0 rows ≡ Some q → Err (Lost q) ≡ weighed_of p s n
  weighed_lost q e = weighed_as p s n (refusing (Lost q) (replicate n 0)) (same ∙ judged-lost p s n (replicate n 0) q e)

  module _ (answer : Result (Unit {0}) Refusal) (q : ℕ) (v : Judging p.rows p.slot (contents p s) n rows answer q) (f : rows ≤ q) where
    full : lowest_from (lacks p.rows p.slot (contents p s)) 0 rows ≡ None
    full = none_lacks p.rows p.slot (contents p s) n rows answer q v f

    coded : v.coded ≡ is_nothing (lowest_from (uncoded p.rows p.slot (contents p s)) 0 rows)
    coded = all_coded p.rows p.slot (contents p s) n rows answer q v f

    zeros : all_zero (undone 1 p.rows (restored p.rows p.slot (contents p s) (sent_length p.rows n)) (239 * p.rows * tables_of p.rows n - n) n) ≡ v.clear
    zeros = sym (all_clear p.rows p.slot (contents p s) n rows answer q v f ∙ padding_told p.rows h p.slot (contents p s) n (tables_of p.rows n))

    pub weighed_end : answer ≡ weighed_of p s n
    weighed_end = v.answers ∙ by v.coded v.clear refl refl
      where
        by : (a b : Bool) → v.coded ≡ a → v.clear ≡ b → verdict a b ≡ weighed_of p s n
        by false b x y = weighed_as p s n (refusing Code (replicate n 0)) (same ∙ judged_code p s n (replicate n 0) full (sym coded ∙ x))
        by true false x y = weighed_as p s n (refusing Padding (replicate n 0)) (same ∙ judged_padding p s n (replicate n 0) full (sym coded ∙ x) (zeros ∙ y))
        by true true x y = weighed_whole p s n (same ∙ judged-whole p s n (replicate n 0) full (sym coded ∙ x) (zeros ∙ y))

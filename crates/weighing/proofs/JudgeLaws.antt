-- The pass over all rows: what is wrong with one of them, and what those from row q on add to what was found.
-- Assumes nothing.
use mathlib.Core.Path.{◌≡◌, refl, sym, ap, ◌∙◌}
use mathlib.Core.Bool.{Bool, true, false, cond, not, ◌&&◌}
use mathlib.Core.List.{List}
use Prim.Native.Nat.{ℕ, ◌+◌, ◌<◌, ◌≤◌}
use Rattle.std.specs.Prelude.{Option, Some, None, Result, Ok, Err}
use Rattle.std.specs.Result.{result_and}
use Rattle.refusals.specs.declared.Refusal.{Refusal}
use Rattle.refusals.specs.declared.Refusal.TheVariants.{Code, Padding}
use Rattle.code.specs.Search.Repaired.{found, none}
use Rattle.places.specs.Room.{lowest_from}
use Rattle.contents.specs.Contents.{Slot as Content}
use Rattle.columns.specs.Handing.{all_zero}
use Rattle.columns.specs.Columns.{lacks, row_restored, uncoded}
use Rattle.columns.specs.InnerJudge.{is_nothing, beyond_in, spoilt}
use Rattle.columns.proofs.Lowest.{lowest_left, left-first, left_end, left_here, left-next, none-next}
use Rattle.weighing.specs.declared.judge.Fault.{Fault}
use Rattle.weighing.specs.declared.judge.Fault.TheVariants.{Lost, Uncoded, Padding as Unclear}
use Rattle.weighing.specs.Inner.{fault_of}

-- ---- one row

module _ (m size : ℕ) (c : List Content) (n q : ℕ) where
  pub fault_lacks : lacks m size c q ≡ true → Some Lost ≡ fault_of m size c n q
  unfolding fault_of
  fault_lacks l = rw l refl

  module _ (l : lacks m size c q ≡ false) where
    pub fault_uncoded : row_restored m size c q ≡ none → Some Uncoded ≡ fault_of m size c n q
    unfolding fault_of uncoded
    fault_uncoded e = rw (l, e) refl

    module _ (row : List ℕ) (e : row_restored m size c q ≡ found row) where
      pub fault_spoilt : all_zero (beyond_in m n q row) ≡ false → Some Unclear ≡ fault_of m size c n q
      unfolding fault_of uncoded spoilt
      fault_spoilt z = rw (l, e, z) refl

      pub fault_none : all_zero (beyond_in m n q row) ≡ true → None ≡ fault_of m size c n q
      unfolding fault_of uncoded spoilt
      fault_none z = rw (l, e, z) refl

  -- what a fault says of the row
  abbrev Says : Option Fault → Type 0
  Says (Some Lost) = lacks m size c q ≡ true
  Says (Some Uncoded) = (lacks m size c q ≡ false) × (uncoded m size c q ≡ true)
  Says (Some Unclear) = (lacks m size c q ≡ false) × (uncoded m size c q ≡ false) × (spoilt m size c n q ≡ true)
  Says None = (lacks m size c q ≡ false) × (uncoded m size c q ≡ false) × (spoilt m size c n q ≡ false)

  says : (f : Option Fault) → f ≡ fault_of m size c n q → Says f
  unfolding fault_of
  says f e = rw e (by (lacks m size c q) (uncoded m size c q) (spoilt m size c n q) refl refl refl)
    where
      by : (a b d : Bool) → lacks m size c q ≡ a → uncoded m size c q ≡ b → spoilt m size c n q ≡ d
          → Says (cond a (Some Lost) (cond b (Some Uncoded) (cond d (Some Unclear) None)))
      by true b d x y z = x
      by false true d x y z = (x, y)
      by false false true x y z = (x, y, z)
      by false false false x y z = (x, y, z)

-- ---- the pass, at row q: no row before it lacks more than sixteen bytes

-- what is answered where no row does
abbrev pub verdict : Bool → Bool → Result (Unit {0}) Refusal
verdict coded clear = cond coded (cond clear (Ok tt) (Err Padding)) (Err Code)

pub record Judging (m size : ℕ) (c : List Content) (n rows : ℕ) (answer : Result (Unit {0}) Refusal) (q : ℕ) : Type 0 where
  pub coded : Bool
  pub clear : Bool
  pub answers : answer ≡ verdict coded clear
  pub lacking : lowest_left (lacks m size c) rows q ≡ lowest_from (lacks m size c) 0 rows
  pub codes : (coded && is_nothing (lowest_left (uncoded m size c) rows q)) ≡ is_nothing (lowest_from (uncoded m size c) 0 rows)
  pub clears : (clear && is_nothing (lowest_left (spoilt m size c n) rows q)) ≡ is_nothing (lowest_from (spoilt m size c n) 0 rows)

and_assoc : (a b d : Bool) → ((a && b) && d) ≡ (a && (b && d))
and_assoc true b d = refl
and_assoc false b d = refl

and-true : (a : Bool) → (a && true) ≡ a
and-true true = refl
and-true false = refl

verdict_code : (a b : Bool) → Err Code ≡ verdict (a && false) b
verdict_code true b = refl
verdict_code false b = refl

verdict_padding : (a b : Bool) → result_and {U = Unit {0}} (verdict a b) (Err Padding) ≡ verdict (a && true) (b && false)
verdict_padding true true = refl
verdict_padding true false = refl
verdict_padding false b = refl

verdict_same : (a b : Bool) → verdict a b ≡ verdict (a && true) (b && true)
verdict_same true true = refl
verdict_same true false = refl
verdict_same false b = refl

module _ (m size : ℕ) (c : List Content) (n rows : ℕ) where
  pub judging_first : Judging m size c n rows (Ok tt) 0
  judging_first = record {
    coded = true;
    clear = true;
    answers = refl;
    lacking = left-first (lacks m size c) rows;
    codes = ap is_nothing (left-first (uncoded m size c) rows);
    clears = ap is_nothing (left-first (spoilt m size c n) rows);
  }

  module _ (answer : Result (Unit {0}) Refusal) (q : ℕ) (v : Judging m size c n rows answer q) where
    -- all rows are passed
    module _ (h : rows ≤ q) where
      pub none_lacks : lowest_from (lacks m size c) 0 rows ≡ None
      none_lacks = sym v.lacking ∙ left_end (lacks m size c) rows q h

      pub all_coded : v.coded ≡ is_nothing (lowest_from (uncoded m size c) 0 rows)
      all_coded = sym (and-true v.coded) ∙ ap (λ (o : Option ℕ). v.coded && is_nothing o) (sym (left_end (uncoded m size c) rows q h)) ∙ v.codes

      pub all_clear : v.clear ≡ is_nothing (lowest_from (spoilt m size c n) 0 rows)
      all_clear = sym (and-true v.clear) ∙ ap (λ (o : Option ℕ). v.clear && is_nothing o) (sym (left_end (spoilt m size c n) rows q h)) ∙ v.clears

    -- one row more
    module _ (h : q < rows) where
      pub judging_lost : Some Lost ≡ fault_of m size c n q → lowest_from (lacks m size c) 0 rows ≡ Some q
      judging_lost e = sym v.lacking ∙ left_here (lacks m size c) rows q h (says m size c n q (Some Lost) e)

      one_more : (u z : Bool) → lacks m size c q ≡ false → uncoded m size c q ≡ u → spoilt m size c n q ≡ z → (a : Result (Unit {0}) Refusal)
          → a ≡ verdict (v.coded && not u) (v.clear && not z) → Judging m size c n rows a (q + 1)
      one_more u z l s t a e =
          record {
            coded = v.coded && not u;
            clear = v.clear && not z;
            answers = e;
            lacking = sym (left-next (lacks m size c) rows q h l) ∙ v.lacking;
            codes =
                and_assoc v.coded (not u) (is_nothing (lowest_left (uncoded m size c) rows (q + 1)))
                ∙ ap (λ (b : Bool). v.coded && (not b && is_nothing (lowest_left (uncoded m size c) rows (q + 1)))) (sym s)
                ∙ ap (λ (b : Bool). v.coded && b) (sym (none-next (uncoded m size c) rows q h)) ∙ v.codes;
            clears =
                and_assoc v.clear (not z) (is_nothing (lowest_left (spoilt m size c n) rows (q + 1)))
                ∙ ap (λ (b : Bool). v.clear && (not b && is_nothing (lowest_left (spoilt m size c n) rows (q + 1)))) (sym t)
                ∙ ap (λ (b : Bool). v.clear && b) (sym (none-next (spoilt m size c n) rows q h)) ∙ v.clears;
          }

      pub judging_uncoded : Some Uncoded ≡ fault_of m size c n q → Judging m size c n rows (Err Code) (q + 1)
      judging_uncoded e =
          let t = says m size c n q (Some Uncoded) e in
          one_more true (spoilt m size c n q) t.0 t.1 refl (Err Code) (verdict_code v.coded (v.clear && not (spoilt m size c n q)))

      pub judging_unclear : Some Unclear ≡ fault_of m size c n q → Judging m size c n rows (result_and {U = Unit {0}} answer (Err Padding)) (q + 1)
      judging_unclear e =
          let t = says m size c n q (Some Unclear) e in
          one_more false true t.0 t.1 t.2 (result_and {U = Unit {0}} answer (Err Padding))
          (ap (λ (a : Result (Unit {0}) Refusal). result_and {U = Unit {0}} a (Err Padding)) v.answers ∙ verdict_padding v.coded v.clear)

      pub judging_none : None ≡ fault_of m size c n q → Judging m size c n rows answer (q + 1)
      judging_none e =
          let t = says m size c n q None e in
          one_more false false t.0 t.1 t.2 answer (v.answers ∙ verdict_same v.coded v.clear)

-- A text that the reader takes is, with LF for CR LF, what the writer writes of its attributes (`writes_back`): each value, read and in its range, is written as it stood.
-- Assumes nothing.
use mathlib.Core.Path.{◌≡◌, refl, sym, ap, ◌∙◌}
use mathlib.Core.Logic.{◌⊎◌, inl, inr}
use mathlib.Core.Bool.{Bool, true, false, cond}
use mathlib.Core.List.{List, [], ◌∷◌, ◌++◌, append-nil}
use Prim.Native.Nat.{ℕ, ◌<◌}
use native.Mathlib.Omega.{arith}
use borrow.Author.Tests.{eqb-true, eq-eqb}
use lib.Dec.{eqb}
use lib.ListN.{length, get_or, drop_of_length-le}
use lib.Seq.{ext_get_or}
use Rattle.ground.specs.Lists.{listed}
use Rattle.ground.proofs.Listed.{length-listed, get_or-listed_0}
use Rattle.decimal.specs.Decimal.{digits, number_in, no_number}
use Rattle.decimal.proofs.NumberLaws.{digits_back}
use Rattle.calendar.specs.declared.Time.{Time}
use Rattle.calendar.specs.Calendar.{real, no_time, not_given}
use Rattle.calendar.specs.Range.{RealTime}
use Rattle.times.specs.Written.{time_text, time_in, wrong_time}
use Rattle.calendar.proofs.RangeLaws.{real-range}
use Rattle.times.proofs.WrittenLaws.{written_time, time_real}
use Rattle.attributes.specs.declared.Part.{Part}
use Rattle.attributes.specs.declared.Description.{Description}
use Rattle.attributes.specs.Attributes.{attributes_of, part_of, no_charset, no_size, optional_text, time_value, values}
use Rattle.attributes.specs.Lines.{lines_text, lines_of}
use Rattle.attributes.specs.Describe.{nowhere, optional_in, given_time, description_in, describe_of}
use Rattle.attributes.specs.Compose.{text_of}
use Rattle.attributes.specs.Statements.{InRange, plain, WritesBack}
use Rattle.attributes.proofs.LineLaws.{all_unbroken, values_in, values_length, values-at}
use Rattle.attributes.proofs.PlainLaws.{lines_plain}
use Rattle.attributes.proofs.RuleLaws.{not_given_lem, values-unbroken}
use Rattle.attributes.proofs.ReadLaws.{Taken, taken, reading_in_range}
use Rattle.attributes.proofs.TakesSound.{charset_small, size_small, kind_small}

-- ---- values that may be left out

empty : (v : List ℕ) → length v ≡ 0 → [] ≡ v
empty [] e = refl
empty (b ∷ v) e = absurd (omega arith)

pub optional_written : (none : ℕ) (v : List ℕ) → optional_in none v < 100000000 → optional_text none (optional_in none v) ≡ v
unfolding optional_in
optional_written none v h = by (eqb (length v) 0) (eqb (number_in v) none) refl refl h
  where
    by : (b c : Bool) → eqb (length v) 0 ≡ b → eqb (number_in v) none ≡ c → cond b none (cond c no_number (number_in v)) < 100000000
        → optional_text none (cond b none (cond c no_number (number_in v))) ≡ v
    by true c e f h = ap (λ (b : Bool). cond b [] (digits none)) (eq-eqb none none refl) ∙ empty v (eqb-true (length v) 0 e)
    by false true e f h = absurd (omega arith)
    by false false e f h = ap (λ (c : Bool). cond c [] (digits (number_in v))) f ∙ digits_back v h

real_given : (t : Time) → RealTime t → not_given t ≡ false
real_given t r = by (not_given t) refl
  where
    by : (c : Bool) → not_given t ≡ c → c ≡ false
    by true e = absurd (omega (arith, ap (λ (x : Time). x.year) (not_given_lem t e), r.year_first))
    by false e = refl

pub time_value-written : (v : List ℕ) → (given_time v ≡ no_time) ⊎ RealTime (given_time v) → time_value (given_time v) ≡ v
unfolding given_time
time_value-written v h = by (eqb (length v) 0) refl h
  where
    when : (time_in v ≡ wrong_time) ⊎ (real (time_in v) ≡ true) → (time_in v ≡ no_time) ⊎ RealTime (time_in v) → time_value (time_in v) ≡ v
    when (inl w) (inl n) = absurd (omega (arith, ap (λ (x : Time). x.month) (sym w ∙ n)))
    when (inl w) (inr r) = absurd (omega (arith, ap (λ (x : Time). x.year) w, r.year_first))
    when (inr r) h = ap (λ (c : Bool). cond c [] (time_text (time_in v))) (real_given (time_in v) (real-range (time_in v) r)) ∙ written_time v r

    by : (b : Bool) → eqb (length v) 0 ≡ b → (cond b no_time (time_in v) ≡ no_time) ⊎ RealTime (cond b no_time (time_in v)) → time_value (cond b no_time (time_in v)) ≡ v
    by true e h = empty v (eqb-true (length v) 0 e)
    by false e h = when (time_real v) h

-- ---- the values of a text that is taken

values_listed : (t : List ℕ) (ps : List Part) (n : ℕ) → length ps ≡ n → listed (λ i. part_of t (get_or ps i nowhere)) n 0 ≡ values_in t ps
values_listed t ps n e =
    let z : length (listed (λ i. part_of t (get_or ps i nowhere)) n 0) ≡ n = length-listed (λ i. part_of t (get_or ps i nowhere)) n 0 in
    let y : length (values_in t ps) ≡ length ps = values_length t ps in
    ext_get_or [] (listed (λ i. part_of t (get_or ps i nowhere)) n 0) (values_in t ps) (z ∙ sym e ∙ sym y)
    (λ i h. get_or-listed_0 (λ k. part_of t (get_or ps k nowhere)) n i [] (omega arith) ∙ sym (values-at t ps i (omega arith)))

values-written : (t : List ℕ) (ps : List Part) → InRange (attributes_of t (description_in t ps))
    → values (attributes_of t (description_in t ps)) ≡ listed (λ i. part_of t (get_or ps i nowhere)) 15 0
unfolding values description_in
values-written t ps r =
    let v : ℕ → List ℕ = λ i. part_of t (get_or ps i nowhere) in
    λ j. digits_back (v 0) (omega (arith, r.service.1)) j
    ∷ digits_back (v 1) (omega (arith, r.mode)) j
    ∷ digits_back (v 2) (omega (arith, r.resource.1)) j
    ∷ digits_back (v 3) (omega (arith, r.update)) j
    ∷ v 4
    ∷ digits_back (v 5) (kind_small _ r) j
    ∷ v 6 ∷ v 7 ∷ v 8
    ∷ optional_written no_charset (v 9) (charset_small _ r) j
    ∷ v 10
    ∷ optional_written no_size (v 11) (size_small _ r) j
    ∷ time_value-written (v 12) r.begins j
    ∷ time_value-written (v 13) r.ends j
    ∷ digits_back (v 14) (omega (arith, r.delete)) j
    ∷ []

pub writes_back : WritesBack describe_of
unfolding text_of lines_of
writes_back t d e = ap (λ (x : Description). lines_text 1 (values (attributes_of t x))) same ∙ ap (lines_text 1) all ∙ sym text
  where
    ok : Taken t d
    ok = taken t d e

    ps : List Part
    ps = (lines_of t).parts

    same : d ≡ description_in t ps
    same = ok.parts

    r : InRange (attributes_of t (description_in t ps))
    r = rw same at (reading_in_range t d e)

    all : values (attributes_of t (description_in t ps)) ≡ values_in t ps
    all = values-written t ps r ∙ values_listed t ps 15 ok.fifteen

    text : plain t ≡ lines_text 1 (values_in t ps)
    text =
        lines_plain t 1 15 0 ok.fifteen (sym (ap all_unbroken all) ∙ values-unbroken (attributes_of t (description_in t ps)) r)
        ∙ ap (λ (x : List ℕ). lines_text 1 (values_in t ps) ++ plain x) (drop_of_length-le t {i = (lines_of t).next} ok.end)
        ∙ append-nil (lines_text 1 (values_in t ps))

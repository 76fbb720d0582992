-- What an answer tells can be read back: no refusal has the number 0 or more than one value, and answers that tell the same are the same.
-- Laws of Refusals and Told; each crate with an answer of its own tells it apart through `told-apart`. Assumes nothing.
use mathlib.Core.Path.{◌≡◌, refl, sym, ap, ◌∙◌}
use mathlib.Core.Bool.{true, false, true≢false}
use mathlib.Core.List.{List, [], ◌∷◌}
use Prim.Native.Nat.{ℕ, ◌≤◌}
use native.Mathlib.Omega.{arith}
use lib.ListN.{length, get_or}
use Rattle.refusals.specs.declared.Refusal.{Refusal}
use Rattle.refusals.specs.declared.Refusal.TheVariants.{Short, Mark, Length, «Type», Protection, Number, Rows, Resource, Record, Unknown, Other, Wide, Repair, Crc, Slot, Conflict, Field, Held, Full, Room, Missing, Shape, Size, Padding, Count, Output, Line, Extra, Lost, Code, Edition}
use Rattle.refusals.specs.Refusals.{number_of, values_of, value_of}
use Rattle.refusals.specs.Told.{Told, refused_as, verdict_told}
use Rattle.std.specs.Prelude.{Result}
use Rattle.std.specs.Prelude.{Ok, Err}

-- the verdicts in the order of their numbers, from 0, where v is the value of those that have one; no refusal has 27 or 28
abbrev verdicts : ℕ → List (Result (Unit {0}) Refusal)
verdicts v = (Ok tt) ∷ Err Short ∷ Err Mark ∷ Err Length ∷ Err «Type» ∷ Err Protection ∷ Err Number ∷ Err Rows ∷ Err Resource ∷ Err Record ∷ Err Unknown ∷ Err Other ∷ Err Wide ∷ Err (Repair v) ∷ Err Crc ∷ Err Slot ∷ Err Conflict ∷ Err Field ∷ Err Held ∷ Err Full ∷ Err Room ∷ Err (Missing v) ∷ Err Shape ∷ Err Size ∷ Err Padding ∷ Err Count ∷ Err Output ∷ (Ok tt) ∷ (Ok tt) ∷ Err (Line v) ∷ Err Extra ∷ Err (Lost v) ∷ Err Code ∷ Err Edition ∷ []

record Reads (r : Refusal) : Type 0 where
  back : get_or (verdicts (value_of r)) (number_of r) (Ok tt) ≡ Err r
  lone : length (values_of r) ≤ 1

reads : (r : Refusal) → Reads r
reads Short = record { back = refl; lone = omega arith }
reads Mark = record { back = refl; lone = omega arith }
reads Length = record { back = refl; lone = omega arith }
reads «Type» = record { back = refl; lone = omega arith }
reads Protection = record { back = refl; lone = omega arith }
reads Number = record { back = refl; lone = omega arith }
reads Rows = record { back = refl; lone = omega arith }
reads Resource = record { back = refl; lone = omega arith }
reads Record = record { back = refl; lone = omega arith }
reads Unknown = record { back = refl; lone = omega arith }
reads Other = record { back = refl; lone = omega arith }
reads Wide = record { back = refl; lone = omega arith }
reads (Repair v) = record { back = refl; lone = omega arith }
reads Crc = record { back = refl; lone = omega arith }
reads Slot = record { back = refl; lone = omega arith }
reads Conflict = record { back = refl; lone = omega arith }
reads Field = record { back = refl; lone = omega arith }
reads Held = record { back = refl; lone = omega arith }
reads Full = record { back = refl; lone = omega arith }
reads Room = record { back = refl; lone = omega arith }
reads (Missing v) = record { back = refl; lone = omega arith }
reads Shape = record { back = refl; lone = omega arith }
reads Size = record { back = refl; lone = omega arith }
reads Padding = record { back = refl; lone = omega arith }
reads Count = record { back = refl; lone = omega arith }
reads Output = record { back = refl; lone = omega arith }
reads (Line v) = record { back = refl; lone = omega arith }
reads Extra = record { back = refl; lone = omega arith }
reads (Lost v) = record { back = refl; lone = omega arith }
reads Code = record { back = refl; lone = omega arith }
reads Edition = record { back = refl; lone = omega arith }

pub values_lone : (r : Refusal) → length (values_of r) ≤ 1
values_lone r = (reads r).lone

-- ---- reading back what an answer tells, where an accepted one is made of its values and a refused one of its refusal

module _ {A : Type 0} (accepted : List ℕ → A) (refused : Refusal → A) where
  abbrev answer_by : Result (Unit {0}) Refusal → List ℕ → A
  answer_by (Ok tt) values = accepted values
  answer_by (Err r) values = refused r

  abbrev pub answer_in : Told → A
  answer_in t = answer_by (get_or (verdicts (get_or t.values 0 0)) t.number (Ok tt)) t.values

  pub refused_back : (r : Refusal) → answer_in (refused_as r) ≡ refused r
  refused_back r = ap (λ (v : Result (Unit {0}) Refusal). answer_by v (values_of r)) (reads r).back

pub told-apart : {A : Type 0} (told : A → Told) (back : Told → A) → ((x : A) → back (told x) ≡ x) → (x y : A) → told x ≡ told y → x ≡ y
told-apart told back law x y e = sym (law x) ∙ ap back e ∙ law y

-- ---- numbers

pub number_not_0 : (r : Refusal) → number_of r ≡ 0 → ⊥
number_not_0 r e =
    true≢false (sym (refused_back (λ l. false) (λ s. true) r)
    ∙ ap (λ (n : ℕ). answer_in (λ l. false) (λ s. true) (record { number = n; values = values_of r })) e)

pub verdict_accepted : (v : Result (Unit {0}) Refusal) → (verdict_told v).number ≡ 0 → v ≡ (Ok tt)
verdict_accepted (Ok tt) e = refl
verdict_accepted (Err r) e = absurd (number_not_0 r e)

-- ---- refusals and verdicts told apart

pub refusal_apart : (r s : Refusal) → refused_as r ≡ refused_as s → r ≡ s
refusal_apart = told-apart refused_as (answer_in (λ l. Short) (λ r. r)) (refused_back (λ l. Short) (λ r. r))

verdict_back : (v : Result (Unit {0}) Refusal) → answer_in (λ l. (Ok tt)) Err (verdict_told v) ≡ v
verdict_back (Ok tt) = refl
verdict_back (Err r) = refused_back (λ l. (Ok tt)) Err r

pub verdict_apart : (v w : Result (Unit {0}) Refusal) → verdict_told v ≡ verdict_told w → v ≡ w
verdict_apart = told-apart verdict_told (answer_in (λ l. (Ok tt)) Err) verdict_back

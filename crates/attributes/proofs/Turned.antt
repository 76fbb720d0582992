-- Wrong readers and writers are turned away, each by a statement that it breaks at one small text: a stream of data whose name is the letter a.
-- Assumes nothing.
use mathlib.Core.Path.{◌≡◌, refl, sym, ap}
use mathlib.Core.Logic.{◌⊎◌, inl, inr}
use mathlib.Core.Bool.{true≢false}
use mathlib.Core.List.{List, [], ◌∷◌, ◌++◌}
use Prim.Native.Nat.{ℕ, zero, suc, ◌<◌, ◌≤◌}
use native.Mathlib.Omega.{arith}
use lib.ListN.{take, drop}
use Rattle.texts.specs.Utf8.{first_of}
use Rattle.texts.specs.Breaks.{CR}
use Rattle.decimal.specs.Decimal.{is_number, number_in, digits}
use Rattle.content.specs.Content.{content_of}
use Rattle.calendar.specs.declared.Time.{Time}
use Rattle.calendar.specs.Calendar.{leap, days_in, real, no_time}
use Rattle.calendar.specs.Range.{RealTime}
use Rattle.times.specs.Written.{time_text, time_at, time_in}
use Rattle.refusals.specs.declared.Refusal.{Refusal}
use Rattle.refusals.specs.declared.Refusal.TheVariants.{Line, Output}
use Rattle.attributes.specs.declared.Description.{Description}
use Rattle.attributes.specs.Attributes.{Attributes, attributes_of, no_charset, no_size, values}
use Rattle.attributes.specs.Rules.{rules_of, placed, rules}
use Rattle.attributes.specs.Lines.{lines_text, value_at, lines_of}
use Rattle.attributes.specs.Describe.{nowhere, optional_in, given_time, description_in, fault_of}
use Rattle.attributes.specs.Compose.{text_of, Writing}
use Rattle.attributes.specs.Statements.{InRange, PartsInside, ReadingInRange, WritesSound, TakesSound, SoundLine, ExtraLast, TellsFault, SoundAttribute, TellsAttribute}
use Rattle.attributes.specs.Wrong.{refusing_reader, refusing_writer, room_first, extra_first, one_fault, without_cr_lf, start_of, beginning, every_fourth}
use Rattle.attributes.proofs.ReadsBack.{text_own}
use Rattle.std.specs.Prelude.{Err}

-- ---- the example

abbrev pub letter : List ℕ
letter = 97 ∷ []

abbrev pub shown : Description
shown = record {
  service = 9000;
  mode = 0;
  resource = 1;
  update = 0;
  name = record { at = 0; length = 1 };
  kind = 131;
  title = nowhere;
  summary = nowhere;
  keywords = nowhere;
  charset = no_charset;
  path = nowhere;
  size = no_size;
  begins = no_time;
  ends = no_time;
  delete = 0;
}

abbrev pub example : Attributes
example = attributes_of letter shown

pub in_range : InRange example
unfolding content_of first_of
in_range = record {
  service = (omega arith, omega arith);
  mode = omega arith;
  resource = (omega arith, omega arith);
  update = omega arith;
  name = (omega arith, refl);
  kind = inr (refl, refl);
  title = refl;
  summary = refl;
  keywords = refl;
  charset = inr (λ e. omega arith, refl);
  path = refl;
  size = inr (refl, refl);
  begins = inl refl;
  ends = inl refl;
  order = inl refl;
  delete = omega arith;
}

parts-inside : PartsInside letter shown
parts-inside = record { name = refl; title = refl; summary = refl; keywords = refl; path = refl }

-- ---- they refuse everything

pub refusing_reader_turned : (why : List ℕ → Refusal) → TakesSound (refusing_reader why) → ⊥
unfolding refusing_reader
refusing_reader_turned why p =
    let e = (p (text_of example) example in_range (text_own example in_range)).taken in
    let z : ◌≡◌ {A = ℕ} 0 1 = cc in
    omega arith

pub refusing_writer_turned : (why : List ℕ → Description → List ℕ → Refusal) → WritesSound (refusing_writer why) → ⊥
unfolding refusing_writer
refusing_writer_turned why p =
    let e = ap (λ (w : Writing). w.answer) (p letter shown (text_of example) in_range parts-inside (omega arith)) in
    let z : ◌≡◌ {A = ℕ} 0 1 = cc in
    omega arith

-- ---- it looks at the room first: where nothing is lent, the name of the example is no part of it, and there is no room either

lacks-name : SoundAttribute [] shown 5 → ⊥
unfolding rules placed rules_of
lacks-name s = true≢false (sym s)

has_four : (j : ℕ) → 1 ≤ j → j < 5 → SoundAttribute [] shown j
unfolding rules placed rules_of
has_four zero l h = absurd (omega arith)
has_four (suc zero) l h = refl
has_four (suc (suc zero)) l h = refl
has_four (suc (suc (suc zero))) l h = refl
has_four (suc (suc (suc (suc zero)))) l h = refl
has_four (suc (suc (suc (suc (suc j))))) l h = absurd (omega arith)

pub room-first-turned : TellsAttribute room_first → ⊥
unfolding room_first text_of values digits
room-first-turned p =
    let e : Err Output ≡ Err (Line 5) = ap (λ (w : Writing). w.answer) (p [] shown [] 5 (omega arith) (omega arith) lacks-name has_four) in
    let z : ◌≡◌ {A = ℕ} 0 1 = cc in
    omega arith

-- ---- it tells bytes behind line 15 first: fifteen empty lines and a byte, where line 1 lacks its number

abbrev empty_lines : List ℕ
empty_lines = lines_text 1 ([] ∷ [] ∷ [] ∷ [] ∷ [] ∷ [] ∷ [] ∷ [] ∷ [] ∷ [] ∷ [] ∷ [] ∷ [] ∷ [] ∷ [] ∷ []) ++ letter

pub extra_first-turned : ExtraLast extra_first → ⊥
unfolding extra_first lines_of value_at rules placed rules_of description_in number_in is_number
extra_first-turned p = true≢false (sym (p empty_lines refl 1 (omega arith) (omega arith)).1)

-- ---- it has one answer for every fault: an empty text lacks line 1, the first line of the example line 2

abbrev one_line : List ℕ
one_line = take 8 (text_of example)

lacks_one : SoundLine [] 1 → ⊥
unfolding lines_of
lacks_one s = omega (arith, s.0)

lacks-two : SoundLine one_line 2 → ⊥
unfolding lines_of text_of values digits
lacks-two s = omega (arith, s.0)

has_one : (j : ℕ) → 1 ≤ j → j < 2 → SoundLine one_line j
unfolding lines_of text_of values digits value_at rules placed rules_of description_in number_in is_number
has_one zero l h = absurd (omega arith)
has_one (suc zero) l h = (omega arith, refl)
has_one (suc (suc j)) l h = absurd (omega arith)

pub one_fault_turned : (why : Refusal) → TellsFault (one_fault why) → ⊥
unfolding one_fault fault_of lines_of text_of values digits value_at rules placed rules_of description_in number_in is_number
one_fault_turned why p =
    let a : Err why ≡ Err (Line 1) = p [] 1 (omega arith) (omega arith) lacks_one (λ j l h. absurd (omega arith)) in
    let b : Err why ≡ Err (Line 2) = p one_line 2 (omega arith) (omega arith) lacks-two has_one in
    let z : ◌≡◌ {A = ℕ} 1 2 = cc in
    omega arith

-- ---- it takes no CR LF: the example with CR LF behind line 1

abbrev with_cr : List ℕ
with_cr = take 7 (text_of example) ++ (CR ∷ drop 7 (text_of example))

pub without_cr_lf_turned : TakesSound without_cr_lf → ⊥
unfolding without_cr_lf text_of values digits
without_cr_lf_turned p =
    let e = (p with_cr example in_range refl).taken in
    let z : ◌≡◌ {A = ℕ} 0 1 = cc in
    omega arith

-- ---- it takes 29 February 1900

abbrev day : Time
day = record { year = 1900; month = 2; day = 29; hour = 0; minute = 0; second = 0 }

abbrev that_day : List ℕ
that_day = text_of (attributes_of letter (beginning day shown))

not_real : (day ≡ no_time) ⊎ RealTime day → ⊥
unfolding days_in leap
not_real (inl e) = omega (arith, ap (λ (x : Time). x.year) e)
not_real (inr r) = omega (arith, r.day_last)

pub every_fourth_turned : ReadingInRange every_fourth → ⊥
unfolding every_fourth fault_of lines_of value_at description_in optional_in given_time number_in is_number time_in time_at time_text
    real leap days_in rules placed rules_of content_of text_of values digits first_of
every_fourth_turned p = not_real (p that_day (beginning (start_of that_day) (description_in that_day (lines_of that_day).parts)) refl).begins

-- Reading a description file: document 02, R-4. The refusals are 29 with the lowest line that has a fault, then 30.
-- Assumes nothing.
use Rattle.std.specs.Prelude.{cond, List, ℕ, suc, eqb, leb, ltb, length, get_or}
use Rattle.decimal.specs.Decimal.{number_in, no_number}
use Rattle.calendar.specs.declared.Time.{Time}
use Rattle.times.specs.Written.{time_in}
use Rattle.refusals.specs.declared.Refusal.TheVariants.{Line, Extra}
use Rattle.calendar.specs.Calendar.{no_time}
use Rattle.attributes.specs.declared.Part.{Part}
use Rattle.attributes.specs.declared.Description.{Description}
use Rattle.attributes.specs.Attributes.{no_charset, no_size, part_of}
use Rattle.attributes.specs.Rules.{rules, lowest}
use Rattle.attributes.specs.Lines.{lines_of}
use Rattle.refusals.specs.declared.Refusal.{Refusal}
use Rattle.std.specs.Prelude.{Result}
use Rattle.std.specs.Prelude.{Err}
use Rattle.std.specs.Prelude.{Ok}

-- the part of a line that is not there
abbrev pub nowhere : Part
nowhere = record { at = 0; length = 0 }

-- a number that may be left out; written, what stands for none is no number
unfoldable pub optional_in : ℕ → List ℕ → ℕ
optional_in none v = cond (eqb (length v) 0) none (cond (eqb (number_in v) none) no_number (number_in v))

-- a time that may be left out
unfoldable pub given_time : List ℕ → Time
given_time v = cond (eqb (length v) 0) no_time (time_in v)

-- the attributes by the values of the fifteen lines, which stand in these parts
unfoldable pub description_in : List ℕ → List Part → Description
description_in t ps = record {
  service = number_in (part_of t (get_or ps 0 nowhere));
  mode = number_in (part_of t (get_or ps 1 nowhere));
  resource = number_in (part_of t (get_or ps 2 nowhere));
  update = number_in (part_of t (get_or ps 3 nowhere));
  name = get_or ps 4 nowhere;
  kind = number_in (part_of t (get_or ps 5 nowhere));
  title = get_or ps 6 nowhere;
  summary = get_or ps 7 nowhere;
  keywords = get_or ps 8 nowhere;
  charset = optional_in no_charset (part_of t (get_or ps 9 nowhere));
  path = get_or ps 10 nowhere;
  size = optional_in no_size (part_of t (get_or ps 11 nowhere));
  begins = given_time (part_of t (get_or ps 12 nowhere));
  ends = given_time (part_of t (get_or ps 13 nowhere));
  delete = number_in (part_of t (get_or ps 14 nowhere));
}

-- the lower of two
abbrev pub lower : ℕ → ℕ → ℕ
lower a b = cond (leb a b) a b

-- the lowest line that is missing or may not hold what it holds
unfoldable pub fault_of : List ℕ → ℕ
fault_of t = lower (lowest (rules t (description_in t (lines_of t).parts))) (suc (length (lines_of t).parts))

unfoldable pub describe_of : List ℕ → Result Description Refusal
describe_of t =
    cond (leb (fault_of t) 15) (Err (Line (fault_of t)))
    (cond (ltb (lines_of t).next (length t)) (Err Extra) (Ok (description_in t (lines_of t).parts)))

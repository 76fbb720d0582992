-- A description as thirty numbers, and what the two functions of the C face for descriptions answer and leave: document 02, R-4 (include/brithelva.h has the order).
-- Assumes nothing.
use Rattle.std.specs.Prelude.{cond, List, ℕ, ◌+◌, ◌%◌, eqb, length, get_or}
use Rattle.refusals.specs.declared.Refusal.TheVariants.{Field}
use Rattle.refusals.specs.Told.{refused_as}
use Rattle.calendar.specs.declared.Time.{Time}
use Rattle.attributes.specs.declared.Part.{Part}
use Rattle.attributes.specs.declared.Description.{Description}
use Rattle.attributes.specs.Describe.{describe_of}
use Rattle.attributes.specs.Compose.{compose_of}
use Rattle.attributes.specs.Told.{described_told, composed_told}
use Rattle.face.specs.Face.{Said, answer_of, puts_if}
use Rattle.refusals.specs.declared.Refusal.{Refusal}
use Rattle.std.specs.Prelude.{Result}

-- a text's beginning and length from number i on, and a time's six numbers
abbrev pub part_from : List ℕ → ℕ → Part
part_from v i = record { at = get_or v i 0; length = get_or v (i + 1) 0 }

abbrev pub time_from : List ℕ → ℕ → Time
time_from v i = record {
  year = get_or v i 0;
  month = get_or v (i + 1) 0;
  day = get_or v (i + 2) 0;
  hour = get_or v (i + 3) 0;
  minute = get_or v (i + 4) 0;
  second = get_or v (i + 5) 0;
}

-- the description of thirty numbers; 0 for one that is not there
unfoldable pub description_from : List ℕ → Description
description_from v = record {
  service = get_or v 0 0;
  mode = get_or v 1 0;
  resource = get_or v 2 0;
  update = get_or v 3 0;
  name = part_from v 4;
  kind = get_or v 6 0;
  title = part_from v 7;
  summary = part_from v 9;
  keywords = part_from v 11;
  charset = get_or v 13 0;
  path = part_from v 14;
  size = get_or v 16 0;
  begins = time_from v 17;
  ends = time_from v 23;
  delete = get_or v 29 0;
}

-- reading: 29, 30, 26; the thirty numbers are put
abbrev pub described_says : Result Description Refusal → List ℕ → Said
described_says x out = puts_if (described_told x) (described_told x).values out

unfoldable pub describe_says : List ℕ → List ℕ → Said
describe_says t out = described_says (describe_of t) out

-- an answer's low 64 bits; only the length of a text of 2^56 bytes or more would not fit
abbrev pub composed_answer : Result ℕ Refusal → ℕ
composed_answer x = answer_of (composed_told x) % 18446744073709551616

-- writing: 17 where there are not thirty numbers, 29, 26; the value is the length that was written
unfoldable pub compose_says : List ℕ → List ℕ → List ℕ → Said
compose_says v t out =
    cond (eqb (length v) 30)
    (record { answer = composed_answer (compose_of t (description_from v) out).answer; output = (compose_of t (description_from v) out).out })
    (record { answer = answer_of (refused_as Field); output = out })

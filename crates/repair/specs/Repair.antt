-- What mending the rows of a payload answers: document 01, sections 3 and 6; how much was mended: document 02, R-7. The mended rows are those of the crate code.
-- Assumes nothing.
use Rattle.std.specs.Prelude.{◌≡◌, cond, ◌&&◌, List, ℕ, ◌/◌, ◌%◌, eqb, leb, length, Result, Ok, Err}
use Rattle.refusals.specs.declared.Refusal.{Refusal}
use Rattle.refusals.specs.declared.Refusal.TheVariants.{Short, Repair}
use Rattle.code.specs.Mend.{Mended as Rows, whole, broken, mend_rows}

-- what is answered, and what the bytes then are
pub record Mending : Type 0 where
  pub answer : Result ℕ Refusal
  pub bytes : List ℕ

-- every row corrected, and how many bytes were mended; refusal 13 with the first row that has no coded row within eight bytes, and the bytes as they came
abbrev pub mending_as : List ℕ → Rows → Mending
mending_as b (whole c k) = record { answer = Ok k; bytes = c }
mending_as b (broken i) = record { answer = Err (Repair i); bytes = b }

-- of up to fifteen whole rows: refusal 1 for another length
unfoldable pub mending_of : List ℕ → Mending
mending_of b =
    cond (eqb (length b % 255) 0 && leb (length b) 3825) (mending_as b (mend_rows (length b / 255) 0 b))
    (record { answer = Err Short; bytes = b })

-- a call answered, and left the bytes, as m says
pub record Mends (m : Mending) (r : Result ℕ Refusal) (bytes : List ℕ) : Type 0 where
  pub answers : r ≡ m.answer
  pub leaves : bytes ≡ m.bytes

-- What repairing one row answers: document 01, sections 3 and 6; how much was mended: document 02, R-7. The repaired row is that of the crate code.
-- Assumes nothing.
use Rattle.std.specs.Prelude.{◌≡◌, cond, List, ℕ, ◌≤◌, eqb, length, Result, Ok, Err}
use Rattle.refusals.specs.declared.Refusal.{Refusal}
use Rattle.refusals.specs.declared.Refusal.TheVariants.{Short, Repair}
use Rattle.code.specs.Code.{distance}
use Rattle.code.specs.Search.{Repaired}
use Rattle.code.specs.Search.Repaired.{found, none}
use Rattle.code.specs.Repair.{repair_of}
use Rattle.single.specs.declared.Corrected.{Corrected}

-- the corrected row, and at how many places it differs from the row that came; refusal 13 with value 0 where no coded row is within eight bytes
abbrev pub mended_as : List ℕ → Repaired → Result Corrected Refusal
mended_as row (found s) = Ok (record { row = s; count = distance row s })
mended_as row none = Err (Repair 0)

-- of a row of 255 bytes held by value
unfoldable pub mend_of : List ℕ → Result Corrected Refusal
mend_of row = mended_as row (repair_of row)

-- of any bytes: refusal 1 for a length other than 255
unfoldable pub repair_row_of : List ℕ → Result Corrected Refusal
repair_row_of row = cond (eqb (length row) 255) (mend_of row) (Err Short)

-- what is counted of any bytes: 0 to 8, the places at which the answer differs from what came
pub record Counts (row : List ℕ) : Type 0 where
  pub few : (m : Corrected) → repair_row_of row ≡ Ok m → m.count ≤ 8
  pub told : (m : Corrected) → repair_row_of row ≡ Ok m → m.count ≡ distance row m.row

abbrev pub RepairCounts : Type 0
RepairCounts = (row : List ℕ) → Counts row

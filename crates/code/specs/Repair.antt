-- Encoding and repair of a row: document 01, section 3, and demand 2. Contracts cite `checks_of` and `repair_of`; `ChecksAreExact` and `RepairIsExact` say what they are, in
-- terms of `Coded` and `distance` alone, and are proved (proofs/Division.antt, proofs/Exact.antt). How they are made, nobody has to read. Assumes nothing.
use Rattle.std.specs.Prelude.{◌≡◌, List, [], ◌++◌, ℕ, ◌≤◌, length, replicate}
use Rattle.code.specs.Code.{Bytes, Coded, Checks, distance}
use Rattle.code.specs.Search.{Repaired, remainder, is_near, seek}
use Rattle.code.specs.Search.Repaired.{found, none}

-- the checks of 239 information bytes
unfoldable pub checks_of : List ℕ → List ℕ
checks_of info = remainder 239 (info ++ replicate 16 0)

abbrev pub ChecksAreExact : Type 0
ChecksAreExact = (info : List ℕ) → length info ≡ 239 → Bytes info → Checks info (checks_of info)

-- s is a coded row that differs from r in at most eight bytes
pub record Near (r s : List ℕ) : Type 0 where
  pub coded : Coded s
  pub close : distance r s ≤ 8

-- a repair is exact: of every 255 bytes r it answers s exactly if s is a coded row that differs from r in at most eight bytes, and none exactly if there is no such row
pub record Exact (repair : List ℕ → Repaired) : Type 0 where
  pub sound : (r s : List ℕ) → length r ≡ 255 → Bytes r → repair r ≡ found s → Near r s
  pub complete : (r s : List ℕ) → length r ≡ 255 → Bytes r → Near r s → repair r ≡ found s
  pub refusing : (r : List ℕ) → length r ≡ 255 → Bytes r → repair r ≡ none → (s : List ℕ) → Near r s → ⊥
  pub refused : (r : List ℕ) → length r ≡ 255 → Bytes r → ((s : List ℕ) → Near r s → ⊥) → repair r ≡ none

-- the corrected row of 255 bytes, or none
unfoldable pub repair_of : List ℕ → Repaired
repair_of r = seek 255 [] (is_near r)

abbrev pub RepairIsExact : Type 0
RepairIsExact = Exact repair_of

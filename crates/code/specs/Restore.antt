-- A row of which some bytes are known to be lost: document 01, section 3; document 02, R-8. Contracts cite `restore_of`; `RestoreIsExact`, `OnlyOne` and `WrongIsFound` say what it is, in terms of
-- `Coded` alone, and are proved (proofs/Restored.antt). How it is made, nobody has to read. Assumes nothing.
use Rattle.std.specs.Prelude.{◌≡◌, Bool, true, false, cond, ◌||◌, List, [], ℕ, zero, suc, ◌≤◌, ◌<◌, eqb, length, get_or}
use Rattle.code.specs.Code.{Bytes, Coded}
use Rattle.code.specs.Search.{Repaired, remainder, all_zero, seek}
use Rattle.code.specs.Search.Repaired.{found, none}

-- s is a coded row that has every byte of r that is known
pub record Fits (lost : ℕ → Bool) (r s : List ℕ) : Type 0 where
  pub coded : Coded s
  pub known : (c : ℕ) → c < 255 → lost c ≡ false → get_or s c 0 ≡ get_or r c 0

-- how many of the n columns from 0 on are lost
unfoldable pub lost_of : (ℕ → Bool) → ℕ → ℕ
lost_of f zero = 0
lost_of f (suc n) = cond (f n) (suc (lost_of f n)) (lost_of f n)

-- a restoring is exact: of every 255 bytes r of which at most sixteen are lost it answers s exactly if s is a coded row that has the known bytes, and none exactly if there is no
-- such row
pub record Restoring (restore : (ℕ → Bool) → List ℕ → Repaired) : Type 0 where
  pub sound : (lost : ℕ → Bool) (r s : List ℕ) → length r ≡ 255 → Bytes r → lost_of lost 255 ≤ 16 → restore lost r ≡ found s → Fits lost r s
  pub complete : (lost : ℕ → Bool) (r s : List ℕ) → length r ≡ 255 → Bytes r → lost_of lost 255 ≤ 16 → Fits lost r s → restore lost r ≡ found s
  pub refusing : (lost : ℕ → Bool) (r : List ℕ) → length r ≡ 255 → Bytes r → lost_of lost 255 ≤ 16 → restore lost r ≡ none → (s : List ℕ) → Fits lost r s → ⊥
  pub refused : (lost : ℕ → Bool) (r : List ℕ) → length r ≡ 255 → Bytes r → lost_of lost 255 ≤ 16 → ((s : List ℕ) → Fits lost r s → ⊥) → restore lost r ≡ none

-- whether s has those of the first n bytes of r that are known
unfoldable pub has_known : (ℕ → Bool) → List ℕ → List ℕ → ℕ → Bool
has_known lost r s zero = true
has_known lost r s (suc n) = cond (lost n) (has_known lost r s n) (cond (eqb (get_or s n 0) (get_or r n 0)) (has_known lost r s n) false)

-- s leaves no remainder, and has the known bytes of r
unfoldable pub is_fit : (ℕ → Bool) → List ℕ → List ℕ → Bool
is_fit lost r s = cond (has_known lost r s 255) (all_zero (remainder 239 s)) false

-- the restored row of 255 bytes, or none
unfoldable pub restore_of : (ℕ → Bool) → List ℕ → Repaired
restore_of lost r = seek 255 [] (is_fit lost r)

abbrev pub RestoreIsExact : Type 0
RestoreIsExact = Restoring restore_of

-- at most sixteen lost bytes leave one row at most
abbrev pub OnlyOne : Type 0
OnlyOne = (lost : ℕ → Bool) (r s s' : List ℕ) → lost_of lost 255 ≤ 16 → Fits lost r s → Fits lost r s' → s ≡ s'

-- wrong bytes among the known ones of a coded row s are found, where they and the losses are at most sixteen: then no coded row has the known bytes. So one wrong byte is found beside
-- fifteen losses
abbrev pub WrongIsFound : Type 0
WrongIsFound =
    (lost wrong : ℕ → Bool) (r s : List ℕ) → Coded s → lost_of (λ c. lost c || wrong c) 255 ≤ 16
    → ((c : ℕ) → c < 255 → (lost c || wrong c) ≡ false → get_or r c 0 ≡ get_or s c 0)
    → (c : ℕ) → c < 255 → lost c ≡ false → (get_or r c 0 ≡ get_or s c 0 → ⊥) → restore_of lost r ≡ none

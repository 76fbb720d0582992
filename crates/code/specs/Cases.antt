-- The rows' cases of document 01, section 8, numbers 4 to 6, as pairs: what the definitions give, and what the document says.
-- Assumes nothing.
use Rattle.std.specs.Prelude.{List, [], ◌∷◌, ◌++◌, ℕ, replicate}
use Rattle.code.specs.Repair.{checks_of}

-- the checks of 239 zeros; of 238 zeros and a 1; of 238 zeros and a 2
abbrev pub row_cases : List (List ℕ × List ℕ)
row_cases =
    (checks_of (replicate 239 0), replicate 16 0)
    ∷ (checks_of (replicate 238 0 ++ (1 ∷ [])), 59 ∷ 13 ∷ 104 ∷ 189 ∷ 68 ∷ 209 ∷ 30 ∷ 8 ∷ 163 ∷ 65 ∷ 41 ∷ 229 ∷ 98 ∷ 50 ∷ 36 ∷ 59 ∷ [])
    ∷ (checks_of (replicate 238 0 ++ (2 ∷ [])), 118 ∷ 26 ∷ 208 ∷ 103 ∷ 136 ∷ 191 ∷ 60 ∷ 16 ∷ 91 ∷ 130 ∷ 82 ∷ 215 ∷ 196 ∷ 100 ∷ 72 ∷ 118 ∷ [])
    ∷ []

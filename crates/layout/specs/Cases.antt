-- Case 11 of document 01, section 8: M 2, file 10 11 12 13 14: row 0 starts 10 12 14 0, row 1 starts 11 13 0 0.
-- Assumes nothing.
use Rattle.std.specs.Prelude.{List, [], ◌∷◌, ℕ, take}
use Rattle.layout.specs.Layout.{row_of}

-- each computed list with the one expected
abbrev pub layout_cases : List (List ℕ × List ℕ)
layout_cases =
    (take 4 (row_of 2 (10 ∷ 11 ∷ 12 ∷ 13 ∷ 14 ∷ []) 0 0), 10 ∷ 12 ∷ 14 ∷ 0 ∷ [])
    ∷ (take 4 (row_of 2 (10 ∷ 11 ∷ 12 ∷ 13 ∷ 14 ∷ []) 0 1), 11 ∷ 13 ∷ 0 ∷ 0 ∷ [])
    ∷ []

-- Case 12 of document 01, section 8: L 7648, M 32, P 255 gives N 32; L 7649 gives 64; L 7648 with P 3825 gives 3.
-- Assumes nothing.
use Rattle.std.specs.Prelude.{List, [], ◌∷◌, ℕ}
use Rattle.settings.specs.declared.Settings.{Settings}
use Rattle.pack.specs.Pack.{count_of}

-- a file with protection, 32 rows to a table, under payload size P
abbrev pub rows_of32 : ℕ → Settings
rows_of32 size = record { resource = 1; kind = 1; update = 0; protection = 1; rows = 32; size = size; edition = 2; order = 0 }

-- each computed count with the one expected
abbrev pub count_cases : List (ℕ × ℕ)
count_cases = (count_of (rows_of32 255) 7648, 32) ∷ (count_of (rows_of32 255) 7649, 64) ∷ (count_of (rows_of32 3825) 7648, 3) ∷ []

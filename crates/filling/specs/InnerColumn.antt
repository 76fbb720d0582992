-- Bytes of a file that stand some way apart, as the bytes of a row do in a table that is filled column by column (document 01, section 3): vocabulary of the contracts of
-- private functions. Nobody needs to believe it. Assumes nothing.
use Rattle.std.specs.Prelude.{List, ℕ, ◌+◌, ◌*◌, get_or}
use Rattle.ground.specs.Lists.{listed}

-- n bytes of d, from byte i on and m apart
abbrev pub column : List ℕ → ℕ → ℕ → ℕ → List ℕ
column d m i n = listed (λ c. get_or d (i + c * m) 0) n 0

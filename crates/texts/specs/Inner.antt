-- What the loop over a text keeps between two bytes: the ranges of the bytes that are awaited. Only the proof of `well_formed` needs it.
-- Assumes nothing.
use Rattle.std.specs.Prelude.{cond, List, [], ◌∷◌, ℕ, zero, suc}
use Rattle.texts.specs.Utf8.{Range, range, is_in, First, follow, wrong, later, first_of}

-- a byte that cannot come: behind a wrong byte nothing is well formed
abbrev pub never : List Range
never = range 1 0 ∷ []

abbrev pub wanted : First → List Range
wanted (follow rs) = rs
wanted wrong = never

-- what is awaited behind a first byte
unfoldable pub asked : ℕ → List Range
asked b = wanted (first_of b)

-- so many bytes from 80 to BF
abbrev pub laters : ℕ → List Range
laters zero = []
laters (suc k) = later ∷ laters k

-- so many bytes, the next one from low to high
abbrev pub pending : ℕ → ℕ → ℕ → List Range
pending zero low high = []
pending (suc k) low high = range low high ∷ laters k

-- what is awaited behind one byte more
abbrev pub after : List Range → ℕ → List Range
after [] b = asked b
after (r ∷ rs) b = cond (is_in r b) rs never

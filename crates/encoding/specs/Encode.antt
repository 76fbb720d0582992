-- What encoding a row answers, rows with their checks, and what rows leave when the generator divides them: document 01, sections 3 and 6. The checks are those of the
-- crate code. Assumes nothing.
use Rattle.std.specs.Prelude.{cond, ℕ, ◌*◌, ◌/◌, min, eqb, length, get_or, replicate}
use mathlib.Core.List.{List, ◌++◌, flatten}
use Rattle.std.proofs.lemmas.List.Edits.{sets}
use Rattle.refusals.specs.declared.Refusal.TheVariants.{Short}
use Rattle.ground.specs.Lists.{listed}
use Rattle.code.specs.Search.{remainder}
use Rattle.code.specs.Repair.{checks_of}
use Rattle.encoding.specs.declared.Encoded.{Encoded}
use Rattle.std.specs.Prelude.{Ok, Err}

-- the sixteen checks of 239 bytes; refusal 1 for another length
unfoldable pub encode_of : List ℕ → Encoded
encode_of info =
    cond (eqb (length info) 239)
    (record { verdict = (Ok tt); checks = checks_of info })
    (record { verdict = Err Short; checks = replicate 16 0 })

-- a row: its information bytes, and their checks behind them
unfoldable pub coded_row : List ℕ → List ℕ
coded_row info = info ++ checks_of info

-- row i of some bytes: its 239 information bytes, which stay, and behind them their checks, whatever stood there
unfoldable pub checked_row : List ℕ → ℕ → List ℕ
checked_row b i = coded_row (listed (λ k. get_or b k 0) 239 (i * 255))

-- each whole row of 255 bytes so, from the front on; the bytes behind the last whole row stay
unfoldable pub checked_of : List ℕ → List ℕ
checked_of b = sets b 0 (flatten (listed (checked_row b) (length b / 255) 0))

-- what row i of some bytes leaves: the remainder of 255 of them
unfoldable pub rest_of : List ℕ → ℕ → List ℕ
rest_of b i = remainder 239 (listed (λ k. get_or b k 0) 255 (i * 255))

-- how many whole rows there are, of fifteen at most
abbrev pub rows_in : List ℕ → ℕ
rows_in b = min 15 (length b / 255)

-- what each of them leaves, at the front of 240 zeros
unfoldable pub remainders_of : List ℕ → List ℕ
remainders_of b = sets (replicate 240 0) 0 (flatten (listed (rest_of b) (rows_in b) 0))

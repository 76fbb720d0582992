-- What `put_rows` answers and writes: document 01, section 3. A table of m rows is filled column by column, so the information bytes of a row stand m bytes apart in
-- the file, and the rows' first bytes follow each other. Assumes nothing.
use Rattle.std.specs.Prelude.{Bool, cond, ◌&&◌, ℕ, ◌+◌, ◌*◌, leb, ltb, length, get_or, drop}
use mathlib.Core.List.{List, ◌++◌, flatten}
use Rattle.ground.specs.Lists.{listed}
use Rattle.refusals.specs.declared.Refusal.TheVariants.{Field, Output}
use Rattle.encoding.specs.Encode.{coded_row}
use Rattle.refusals.specs.declared.Refusal.{Refusal}
use Rattle.std.specs.Prelude.{Result}
use Rattle.std.specs.Prelude.{Ok, Err}

-- the 239 information bytes of the row that starts at byte i of the file: 0 beyond the file
unfoldable pub info_from : List ℕ → ℕ → ℕ → List ℕ
info_from file m i = listed (λ c. get_or file (i + c * m) 0) 239 0

-- n rows one behind the other, the first of which starts at byte i of the file
unfoldable pub rows_from : List ℕ → ℕ → ℕ → ℕ → List ℕ
rows_from file m i n = flatten (listed (λ j. coded_row (info_from file m j)) n i)

-- the call serves a table of 1 to 255 rows, up to fifteen rows (no packet has more), and a file and a start within the largest file
unfoldable pub put_serves : ℕ → ℕ → ℕ → ℕ → Bool
put_serves len m at n = ltb 0 m && leb m 255 && leb n 15 && leb at 16777216 && leb len 16777216

-- refusal 17 where it does not serve, 26 where the output has no room
unfoldable pub put_verdict : ℕ → ℕ → ℕ → ℕ → ℕ → Result (Unit {0}) Refusal
put_verdict len m at n room = cond (put_serves len m at n) (cond (ltb room (n * 255)) (Err Output) (Ok tt)) (Err Field)

-- the rows at the start of the output; beside a refusal it is unchanged
abbrev pub put_as : Result (Unit {0}) Refusal → List ℕ → List ℕ → List ℕ
put_as (Ok tt) b out = b ++ drop (length b) out
put_as (Err r) b out = out

unfoldable pub put_rows : List ℕ → ℕ → ℕ → ℕ → List ℕ → List ℕ
put_rows file m at n out = put_as (put_verdict (length file) m at n (length out)) (rows_from file m at n) out

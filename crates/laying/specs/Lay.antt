-- What `put_columns` answers and writes: document 02, R-8. What is sent by columns, all tables one behind the other, is `coded_file 1`; a packet carries a part of it.
-- Assumes nothing.
use Rattle.std.specs.Prelude.{Bool, cond, ◌&&◌, List, ℕ, ◌+◌, ◌*◌, leb, ltb, length, take, drop}
use Rattle.refusals.specs.declared.Refusal.TheVariants.{Field, Output}
use Rattle.layout.specs.Layout.{tables_of, coded_file}
use Rattle.filling.specs.Put.{put_as}
use Rattle.refusals.specs.declared.Refusal.{Refusal}
use Rattle.std.specs.Prelude.{Result}
use Rattle.std.specs.Prelude.{Ok, Err}

-- n bytes of what is sent by columns, from byte `from` on
unfoldable pub part_of : ℕ → List ℕ → ℕ → ℕ → List ℕ
part_of m file from n = take n (drop from (coded_file 1 m file))

-- the call serves tables of 1 to 255 rows, a file up to the largest, and up to 4077 bytes (no packet has more) that lie in its tables
unfoldable pub lay_serves : ℕ → ℕ → ℕ → ℕ → Bool
lay_serves len m from n = ltb 0 m && leb m 255 && leb len 16777216 && leb n 4077 && leb (from + n) (255 * m * tables_of m len)

-- refusal 17 where it does not serve, 26 where the output has no room
unfoldable pub lay_verdict : ℕ → ℕ → ℕ → ℕ → ℕ → Result (Unit {0}) Refusal
lay_verdict len m from n room = cond (lay_serves len m from n) (cond (ltb room n) (Err Output) (Ok tt)) (Err Field)

-- the part at the start of the output; beside a refusal it is unchanged
unfoldable pub lay_into : List ℕ → ℕ → ℕ → ℕ → List ℕ → List ℕ
lay_into file m from n out = put_as (lay_verdict (length file) m from n (length out)) (part_of m file from n) out

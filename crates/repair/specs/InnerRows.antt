-- Vocabulary of the private functions that mend a payload. Nobody needs to believe it: no contract of a public call cites it.
-- Assumes nothing.
use Rattle.std.specs.Prelude.{◌≡◌, cond, List, ℕ, ◌+◌, ◌-◌, ◌*◌, ◌/◌, ◌%◌, ◌≤◌, ◌<◌, ltb, length, take, drop, Result, Ok, Err}
use Rattle.refusals.specs.declared.Refusal.{Refusal}
use Rattle.refusals.specs.declared.Refusal.TheVariants.{Repair}
use Rattle.code.specs.Search.{remainder}
use Rattle.code.specs.Mend.{Mended as Rows, whole, broken}
use Rattle.errata.specs.InnerErrata.{mended_by, entries}

-- whole rows, the first being row i of fifteen, and what each of them leaves
pub record Resting (b : List ℕ) (i : ℕ) (rests : List ℕ) : Type 0 where
  pub multiple : length b % 255 ≡ 0
  pub few : i + length b / 255 ≤ 15
  pub sized : length rests ≡ 240
  pub left : (j : ℕ) → j < length b / 255 → take 16 (drop ((i + j) * 16) rests) ≡ remainder 239 (take 255 (drop (j * 255) b))

-- what rows b that come to m end as: 15 and as many as the bytes that were mended, and the rows mended; or the first that is broken, of fifteen, and b as it came
abbrev pub Ends : List ℕ → Rows → ℕ → List ℕ → Type 0
Ends b (whole c k) r out = (r ≡ 15 + k) × (out ≡ c)
Ends b (broken i) r out = (i < 15) × (r ≡ i) × (out ≡ b)

-- the values added at n places of the row at the front, and n to r, unless row r behind it is broken
pub record Finished (r : ℕ) (b at c : List ℕ) (n : ℕ) (t : ℕ) (out : List ℕ) : Type 0 where
  pub kept : r < 15 → (t ≡ r) × (out ≡ b)
  pub added : 15 ≤ r → (t ≡ r + n) × (out ≡ mended_by b (entries at) (entries c) n)

-- the answer, by what rows end as
unfoldable pub told_of : ℕ → Result ℕ Refusal
told_of r = cond (ltb r 15) (Err (Repair r)) (Ok (r - 15))

-- Vocabulary of the private functions that find what is wrong in a row (document 01, section 3): runs of the syndromes. Nobody needs to believe it: no contract
-- of a public call cites it.
-- Assumes nothing.
use Rattle.std.specs.Prelude.{List, ℕ, ◌+◌, get_or}
use Rattle.field.specs.Field.{product}
use Rattle.code.specs.Total.{total}

-- run j of s over the first n entries of v: the sum of v_m · s_(j + m)
unfoldable pub run_of : List ℕ → List ℕ → ℕ → ℕ → ℕ
run_of v s j n = total n (λ m. product (get_or v m 0) (get_or s (j + m) 0))

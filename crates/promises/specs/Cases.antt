-- The cases marked P of document 01, section 8, numbers 1 to 12, in one list: what the definitions give, and what the document says. (The list also has the CRC of "123456789".)
-- Assumes nothing.
use Rattle.std.specs.Prelude.{◌≡◌, List, [], ◌∷◌, ◌++◌, map, ℕ}
use Rattle.field.specs.Cases.{field_cases}
use Rattle.crc.specs.Cases.{crc_cases}
use Rattle.code.specs.Cases.{row_cases}
use Rattle.packet.specs.Cases.{header_cases}
use Rattle.layout.specs.Cases.{layout_cases}
use Rattle.pack.specs.Cases.{count_cases}

-- a pair of numbers as a pair of lists
abbrev pub alone : ℕ × ℕ → List ℕ × List ℕ
alone c = (c.0 ∷ [], c.1 ∷ [])

abbrev pub cases : List (List ℕ × List ℕ)
cases = map alone field_cases ++ (map alone crc_cases ++ (row_cases ++ (header_cases ++ (layout_cases ++ map alone count_cases))))

-- each computed list is the one expected
abbrev pub CasesHold : Type 0
CasesHold = map (λ (c : List ℕ × List ℕ). c.0) cases ≡ map (λ (c : List ℕ × List ℕ). c.1) cases

-- The header's cases of document 01, section 8, numbers 9 and 10, as pairs: what the definitions give, and what the document says.
-- Assumes nothing.
use Rattle.std.specs.Prelude.{List, [], ◌∷◌, ℕ, ◌+◌}
use Rattle.packet.specs.Packet.{header_of}

-- resource 5, number 0, update 3, one payload byte, count 1, type 1, no protection; and
-- resource 0x1234, number 2, update 15, one row, count 3, type 2, M 32
abbrev pub header_cases : List (List ℕ × List ℕ)
header_cases = (
  header_of (record { resource = 5; number = 0; update = 3; length = 14 + 1 + 4; count = 1; kind = 1; protection = 0; rows = 0; reserved = 0 }),
  0x49 ∷ 0x59 ∷ 0x69 ∷ 0x00 ∷ 0x05 ∷ 0x00 ∷ 0x00 ∷ 0x03 ∷ 0x01 ∷ 0x30 ∷ 0x00 ∷ 0x01 ∷ 0x40 ∷ 0x00 ∷ [],
)
    ∷ (
      header_of (record { resource = 0x1234; number = 2; update = 15; length = 14 + 255 + 4; count = 3; kind = 2; protection = 1; rows = 32; reserved = 0 }),
      0x49 ∷ 0x59 ∷ 0x69 ∷ 0x12 ∷ 0x34 ∷ 0x00 ∷ 0x00 ∷ 0x2F ∷ 0x11 ∷ 0x10 ∷ 0x00 ∷ 0x03 ∷ 0x92 ∷ 0x00 ∷ [],
    )
    ∷ []

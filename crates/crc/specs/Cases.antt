-- Cases 7 and 8 of document 01, section 8, and the CRC of the nine bytes "123456789", the value by which implementations are told apart.
-- Assumes nothing.
use Rattle.std.specs.Prelude.{List, [], ◌∷◌, ℕ}
use Rattle.crc.specs.Crc.{crc32_of}

-- each computed value with the one expected
abbrev pub crc_cases : List (ℕ × ℕ)
crc_cases =
    (crc32_of (0xff ∷ []), 0x000000ff)
    ∷ (crc32_of (0xff ∷ 0xff ∷ 0xff ∷ 0xff ∷ []), 0xffffffff)
    ∷ (crc32_of (0x31 ∷ 0x32 ∷ 0x33 ∷ 0x34 ∷ 0x35 ∷ 0x36 ∷ 0x37 ∷ 0x38 ∷ 0x39 ∷ []), 0xfc891918)
    ∷ []

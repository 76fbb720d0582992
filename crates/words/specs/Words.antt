-- The bytes of a word: document 01, section 3, takes a row's bytes one after the other, and the crates above hold eight of them in a word.
-- Assumes nothing.
use Rattle.std.specs.Prelude.{ℕ, ◌*◌, ◌/◌, ◌%◌, ◌^◌}

-- byte k of a word, the lowest one counted 0
unfoldable pub byte_at : ℕ → ℕ → ℕ
byte_at w k = w / 2 ^ (k * 8) % 256

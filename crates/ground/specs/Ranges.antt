-- Ranges of numbers, both ends in them, and the digits of ASCII.
-- Assumes nothing.
use Rattle.std.specs.Prelude.{Bool, ◌&&◌, ℕ, leb}

abbrev pub between : ℕ → ℕ → ℕ → Bool
between low high n = leb low n && leb n high

-- 0 to 9
abbrev pub is_digit : ℕ → Bool
is_digit b = between 48 57 b

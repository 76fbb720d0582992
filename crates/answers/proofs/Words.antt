-- Answers in 64 bits: what fits is left as it is, and of a value that is shifted up by eight bits the low 56 are kept.
-- Assumes nothing.
use mathlib.Core.Path.{◌≡◌}
use Prim.Native.Nat.{ℕ, ◌+◌, ◌*◌, ◌%◌, ◌<◌}
use native.Mathlib.Omega.{arith}
use Rattle.answers.specs.Answers.{word_of}

pub fits_word : {n : ℕ} → n < 18446744073709551616 → n ≡ word_of n
fits_word h = omega arith

pub one_word : (n : ℕ) → n < 4294967296 → 256 * n ≡ word_of (0 + 256 * n)
one_word n h = omega arith

pub value-word : (n : ℕ) → 256 * (n % 72057594037927936) ≡ word_of (0 + 256 * n)
value-word n = omega arith

pub two-word : (n i : ℕ) → 256 * ((n + 16777216 * (i % 4294967296 + 1)) % 72057594037927936) ≡ word_of (0 + 256 * (n + 16777216 * (i + 1)))
two-word n i = omega arith

-- Answers of the C face as numbers of 64 bits (include/brithelva.h). Whatever our calls answer is below 2^64 (`packed_fits`, `standing_fits`, crate face), so that nothing is
-- cut off; of a value that no call answers the low 64 bits are left. Assumes nothing.
use Rattle.std.specs.Prelude.{ℕ, ◌%◌}

abbrev pub word_of : ℕ → ℕ
word_of n = n % 18446744073709551616

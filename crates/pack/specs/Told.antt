-- What packing tells: document 01, sections 4 and 6.
-- Assumes nothing.
use Rattle.refusals.specs.Told.{Told, length_told}
use Rattle.refusals.specs.declared.Refusal.{Refusal}
use Rattle.std.specs.Prelude.{Result}
use Rattle.std.specs.Prelude.{ℕ}

-- the length of the packet that was written, or the refusal
abbrev pub packed_told : Result ℕ Refusal → Told
packed_told = length_told

-- What Status tells: document 01, sections 5 and 6.
-- Assumes nothing.
use Rattle.std.specs.Prelude.{◌∷◌, Result, Ok, Err, option_to_list}
use Rattle.refusals.specs.declared.Refusal.{Refusal}
use Rattle.refusals.specs.Told.{Told, accepted_with, refused_as}
use Rattle.standing.specs.declared.Standing.{Standing}

-- the number of filled slots, and the lowest empty one where there is one; or the refusal
abbrev pub standing_told : Result Standing Refusal → Told
standing_told (Ok s) = accepted_with (s.filled ∷ option_to_list s.lowest)
standing_told (Err r) = refused_as r

-- What offering a packet tells: document 01, sections 5 and 6; document 02, R-7.
-- Assumes nothing.
use Rattle.std.specs.Prelude.{[], ◌∷◌, ◌+◌, ◌*◌}
use Rattle.refusals.specs.Told.{Told, accepted_with, refused_as}
use Rattle.record.specs.declared.Offered.{Offered}
use Rattle.record.specs.declared.Offered.TheVariants.{Stored, Repeat}
use Rattle.refusals.specs.declared.Refusal.{Refusal}
use Rattle.std.specs.Prelude.{Ok, Err, Result}

-- twice the bytes mended, and 0 for Stored, 1 for Repeat; or the refusal
abbrev pub offered_told : Result Offered Refusal → Told
offered_told (Ok (Stored m)) = accepted_with ((2 * m) ∷ [])
offered_told (Ok (Repeat m)) = accepted_with ((2 * m + 1) ∷ [])
offered_told (Err r) = refused_as r

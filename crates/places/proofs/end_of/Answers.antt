-- The start and the bytes covered.
-- Assumes nothing.
use Rattle.places.specs.Places.{end_of}
use Rattle.places.proofs.end_of.Goals as goal

pub returns : goal.returns
unfolding end_of
returns c = rw c.cover_of.ensures

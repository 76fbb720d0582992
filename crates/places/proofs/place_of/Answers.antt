-- `places::place_of` meets its contract: it sets the fields as the definition does.
-- Assumes nothing.
use Rattle.places.proofs.place_of.Goals as goal

pub returns : goal.returns
returns c = rw c.rows_held.ensures

-- `field::inverse` is the first of sixteen inverses.
-- Assumes nothing.
use Rattle.field.proofs.Walking.{first_inverse}
use Rattle.field.proofs.inverse.Goals as goal

pub returns : goal.returns
returns c =
    let a = c.first-w.ensures in
    first_inverse _ _ _ _ c.inverses-r.ensures a.0 a.1 c.byte.ensures

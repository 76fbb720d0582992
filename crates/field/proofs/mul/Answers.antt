-- `field::mul` is the first of sixteen products.
-- Assumes nothing.
use Rattle.field.proofs.Walking.{first-product}
use Rattle.field.proofs.mul.Goals as goal

pub returns : goal.returns
returns c =
    let a = c.first-x.ensures in
    let b = c.first-y.ensures in
    first-product _ _ _ _ _ _ c.products-r.ensures a.0 a.1 b.0 b.1 c.byte.ensures

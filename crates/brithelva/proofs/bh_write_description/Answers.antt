-- Other than thirty numbers are refused; of thirty the description is written, and the answer made a number.
use mathlib.Core.Path.{refl}
use native.Mathlib.Omega.{arith}
use Rattle.listing.proofs.ListingLaws.{compose_field, compose_says_lem}
use Rattle.brithelva.proofs.bh_write_description.Goals as goal

pub returns-then-values-ne30 : goal.returns-then-values-ne30
returns-then-values-ne30 c = compose_field _ _ _ _ c.if-values-ne30.true refl

pub shape_of-out : goal.shape_of-out
shape_of-out c = omega arith

pub returns : goal.returns
returns c =
    compose_says_lem _ _ _ _ _ _ _ c.if-values-ne30.false c.description_of-d.ensures c.write-composed.ensures.0 c.write-composed.ensures.1 c.length_as.ensures

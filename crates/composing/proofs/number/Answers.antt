-- The digits stand at the front of the eight bytes, and these at the front of the nineteen.
use mathlib.Core.Path.{refl}
use Rattle.composing.proofs.ValueLaws.{number-holds}
use Rattle.composing.proofs.number.Goals as goal

pub returns : goal.returns
returns c =
    let f = c.digits_of-found in
    number-holds _ f.result.length f.result.bytes _ _ f.ensures.0 f.ensures.1 refl c.copy_in.ensures

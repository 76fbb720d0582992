-- `register::table` puts the generator's array into the constant; the rule of what comes of it is computed.
-- Assumes nothing.
use mathlib.Core.Path.{refl}
use Rattle.ground.specs.Bits.{sum}
use Rattle.field.specs.Field.{carryless, reduce, product}
use Rattle.code.specs.Code.{add, scale, generator}
use Rattle.code.specs.Search.{lower}
use Rattle.encoding.specs.InnerRegister.{unpack, both}
use Rattle.encoding.proofs.Constant.{entries, follow, rows, sixteen, doubled, own-words, from_generator}
use Rattle.encoding.proofs.register.table.Goals as goal

pub invariant_of-result : goal.invariant_of-result
unfolding generator entries follow rows sixteen doubled unpack both add scale lower product reduce carryless sum
invariant_of-result c =
    record { ruled = from_generator _ _ _ _ _ (own-words _ _ c.word.ensures c.word-2.ensures) refl refl refl }

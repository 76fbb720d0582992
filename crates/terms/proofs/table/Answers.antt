-- `terms::table` gives the constant, whose rule is computed.
-- Assumes nothing.
use mathlib.Core.Path.{refl}
use Rattle.ground.specs.Bits.{sum}
use Rattle.words.specs.Words.{byte_at}
use Rattle.field.specs.Words.{entry}
use Rattle.field.proofs.Horner.{double}
use Rattle.terms.proofs.Powering.{points_rule}
use Rattle.terms.proofs.table.Goals as goal

pub returns : goal.returns
unfolding entry byte_at double sum
returns c = points_rule _ refl tt tt

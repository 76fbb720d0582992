-- `generator` meets its contract: the constant is the definition's list.
-- Assumes nothing.
use mathlib.Core.Path.{refl}
use Rattle.code.specs.Code.{generator}
use Rattle.encoding.proofs.generator.Goals as goal

pub returns : goal.returns
unfolding generator
returns c = refl

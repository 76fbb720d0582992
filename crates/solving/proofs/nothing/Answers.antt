-- `nothing` is thirty-two zeros.
-- Assumes nothing.
use mathlib.Core.Path.{refl}
use Rattle.errata.specs.InnerErrata.{nothing_added}
use Rattle.solving.proofs.nothing.Goals as goal

pub returns : goal.returns
unfolding nothing_added
returns c = refl

-- `field::powers` hands out the powers of α: its table computes to the chain of doublings.
-- Assumes nothing.
use Rattle.ground.specs.Bits.{sum}
use Rattle.field.proofs.Horner.{double}
use Rattle.field.proofs.Chain.{powers_rule}
use Rattle.field.proofs.powers.Goals as goal

pub returns : goal.returns
unfolding double sum
returns c = powers_rule

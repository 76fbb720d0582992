-- Each byte adds its powers where the bit is 1.
-- Assumes nothing.
use native.Mathlib.Omega.{arith}
use Rattle.terms.proofs.Summing.{adding_start, adding_more, adding_end}
use Rattle.terms.proofs.turn.Goals as goal

pub loop-m-init : goal.loop-m-init
loop-m-init c = λ s l h. adding_start _ s _ l h

pub loop-m-preserved : goal.loop-m-preserved
loop-m-preserved c = λ s l h. adding_more (c.loop-m.invariant s l h) (omega arith) c.requires.1 _ c.wide.ensures.0

pub returns : goal.returns
returns c =
    adding_end (c.loop-m.invariant c.args.s c.doubles-low.ensures c.doubles-high.ensures) (omega arith)

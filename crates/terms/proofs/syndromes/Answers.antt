-- From bit 8, of which nothing has come, down to bit 0.
-- Assumes nothing.
use native.Mathlib.Omega.{arith}
use Rattle.terms.proofs.Summing.{coming_start, coming_more, coming_end}
use borrow.Author.Rules.{rules}
use Rattle.terms.proofs.syndromes.Goals as goal

pub loop-i-init : goal.loop-i-init
loop-i-init c = coming_start _

pub loop-i-preserved : goal.loop-i-preserved
loop-i-preserved c = coming_more c.loop-i.invariant (omega arith) (omega arith) _ c.turn-s.ensures.0 c.turn-s.ensures.1

pub returns : goal.returns
returns c = coming_end c.loop-i.invariant (omega arith) (search rules) (λ k. search rules)

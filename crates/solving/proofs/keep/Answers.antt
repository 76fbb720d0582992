-- Each turn what is kept of the places before k becomes what is kept of those up to k (`keeping_more`).
-- Assumes nothing.
use mathlib.Core.Path.{sym, subst}
use Rattle.errata.proofs.Keeping.{Keeping, keeping_start, keeping_more}
use Rattle.solving.proofs.keep.Goals as goal

pub loop-k-init : goal.loop-k-init
loop-k-init c = subst (Keeping _ _ _ 0) (sym c.nothing-out.ensures) (keeping_start _ _ _)

pub loop-k-preserved : goal.loop-k-preserved
loop-k-preserved c = keeping_more c.loop-k.invariant c.requires c.loop-k-test.true c.put-out.ensures

-- Each turn puts one locator more below the others (`locating_more`).
-- Assumes nothing.
use mathlib.Core.Path.{ap, ◌∙◌}
use native.Mathlib.Omega.{arith}
use Rattle.field.specs.Field.{power}
use Rattle.solving.proofs.Places.{locating_more}
use Rattle.solving.proofs.values.locate.Goals as goal

pub loop-m-preserved : goal.loop-m-preserved
loop-m-preserved c =
    locating_more c.loop-m.invariant (omega arith) _ (c.wide.ensures.0 ∙ c.requires.1.entry c.index.result (omega (arith, c.index.ensures.1)) ∙ ap power c.index.ensures.0)

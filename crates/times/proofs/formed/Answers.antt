-- What a byte says of the form is said of all, where it differs and where it does not.
use mathlib.Core.Path.{sym, ◌∙◌}
use native.Mathlib.Omega.{arith}
use Rattle.times.proofs.FormLaws.{forming_more, forming_not}
use Rattle.times.proofs.formed.Goals as goal

pub returns-then-not-fits : goal.returns-then-not-fits
returns-then-not-fits c =
    forming_not _ _ _ c.loop-i.invariant (omega arith) (sym c.if-not-fits.true ∙ c.fits.ensures)

pub loop-i-preserved : goal.loop-i-preserved
loop-i-preserved c =
    forming_more _ _ _ c.loop-i.invariant (omega arith) (sym c.if-not-fits.false ∙ c.fits.ensures)

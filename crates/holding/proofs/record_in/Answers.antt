-- Bytes enough are read as they stand, fewer over zeros.
use mathlib.Core.Path.{◌∙◌, ap}
use native.Mathlib.Omega.{arith}
use Rattle.holding.specs.Layout.{record_in}
use Rattle.holding.proofs.LayoutLaws.{record-padded}
use Rattle.holding.proofs.record_in.Goals as goal

pub returns : goal.returns
returns c = c.places_in-2.ensures ∙ ap record_in c.copy_in.ensures ∙ record-padded _ (omega (arith, c.if-bytes-ge-RECORD.false))

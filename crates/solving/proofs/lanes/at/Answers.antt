-- `lanes::at` takes the byte out of the word that the entry stands in.
-- Assumes nothing.
use mathlib.Core.Path.{sym, ◌∙◌}
use Rattle.field.proofs.InWords.{entry-low, entry-high}
use Rattle.solving.proofs.lanes.at.Goals as goal

pub returns-then-k-lt8 : goal.returns-then-k-lt8
returns-then-k-lt8 c = c.byte.ensures ∙ sym (entry-low _ _ c.if-k-lt8.true)

pub returns : goal.returns
returns c = c.byte-2.ensures ∙ sym (entry-high _ _ c.if-k-lt8.false)

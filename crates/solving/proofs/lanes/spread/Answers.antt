-- `lanes::spread`: a byte times 0x01 at each byte of a word stands at each of them.
-- Assumes nothing.
use mathlib.Core.Path.{◌∙◌}
use Rattle.errata.proofs.Entries.{entry_each}
use Rattle.solving.proofs.lanes.spread.Goals as goal

pub returns : goal.returns
returns c = λ k h. entry_each c.wide-w.result k c.wide-w.ensures.1 h ∙ c.wide-w.ensures.0

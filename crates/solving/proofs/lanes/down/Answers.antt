-- `lanes::down` moves each word one byte down, and the lowest byte of the upper one to the top of the lower one.
-- Assumes nothing.
use borrow.Author.Rules.{rules}
use Rattle.errata.proofs.Entries.{entry_down}
use Rattle.solving.proofs.lanes.down.Goals as goal

pub returns : goal.returns
returns c = λ k h. entry_down _ k (search rules) h

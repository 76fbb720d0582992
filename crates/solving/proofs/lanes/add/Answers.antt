-- `lanes::add`: a byte of an exclusive or is the exclusive or of the bytes.
-- Assumes nothing.
use Rattle.errata.proofs.Entries.{entry-sum}
use Rattle.solving.proofs.lanes.add.Goals as goal

pub returns : goal.returns
returns c = λ k. entry-sum _ _ _ _ k

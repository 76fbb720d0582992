-- `lanes::unit` sets one bit of one of the words; which byte it stands in is computed.
-- Assumes nothing.
use Rattle.errata.proofs.Entries.{entry_unit_low, entry_unit_high}
use Rattle.solving.proofs.lanes.unit.Goals as goal

pub returns-then-j-lt8 : goal.returns-then-j-lt8
returns-then-j-lt8 c = λ k h. entry_unit_low _ k c.if-j-lt8.true h

pub returns : goal.returns
returns c = λ k h. entry_unit_high _ k c.if-j-lt8.false c.requires h

-- `heading::header` meets its contract: its fourteen entries are the definition's.
-- Assumes nothing.
use mathlib.Core.Path.{refl}
use Rattle.packet.specs.Packet.{header_of}
use Rattle.heading.proofs.header.Goals as goal

pub returns : goal.returns
unfolding header_of
returns c = refl

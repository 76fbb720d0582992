-- `crc::two` looks up the entry of the low half byte in row k and that of the next in row k + 1, and adds them.
-- Assumes nothing.
use mathlib.Core.Path.{sym, ap₂, ◌∙◌}
use Rattle.ground.specs.Bits.{sum}
use Rattle.crc.proofs.Steps.{two_is}
use Rattle.crc.proofs.two.Goals as goal

pub returns : goal.returns
unfolding sum
returns c =
    ap₂ sum c.at.ensures c.at-2.ensures
    ∙ sym (two_is c.args.t.now c.args.k c.args.v)

-- `crc::eight` adds the entries of the word's four bytes, the lowest one's first, two rows for each.
-- Assumes nothing.
use mathlib.Core.Path.{sym, ap₂, ◌∙◌}
use Rattle.ground.specs.Bits.{sum}
use Rattle.crc.proofs.Steps.{eight_is}
use Rattle.crc.proofs.eight.Goals as goal

pub returns : goal.returns
unfolding sum
returns c =
    let s = c.args in
    ap₂ sum c.two.ensures (ap₂ sum c.two-2.ensures (ap₂ sum c.two-3.ensures c.two-4.ensures))
    ∙ sym (eight_is s.t.now s.k s.v)

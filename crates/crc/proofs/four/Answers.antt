-- `crc::four` leaves nothing of the register but what it adds to the word.
-- Assumes nothing.
use mathlib.Core.Path.{sym, ap, ◌∙◌}
use Prim.Native.Nat.{ℕ}
use Rattle.ground.specs.Bits.{sum}
use Rattle.crc.specs.Table.{entries}
use Rattle.crc.proofs.Steps.{four_group}
use Rattle.crc.proofs.four.Goals as goal

pub returns : goal.returns
unfolding sum
returns c =
    let s = c.args in
    c.eight.ensures ∙ ap (λ (x : ℕ). entries s.t.now 0 8 (sum s.register x)) c.word.ensures ∙ sym (four_group s.t.now s.register s.bytes.now)

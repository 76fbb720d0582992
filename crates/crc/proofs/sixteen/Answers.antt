-- `crc::sixteen` adds the entries of four words, the last one's in the first eight rows; the register is added to the first word.
-- Assumes nothing.
use mathlib.Core.Path.{sym, ap, ap₂, ◌∙◌}
use Prim.Native.Nat.{ℕ}
use Rattle.std.proofs.Common.{rules}
use Rattle.ground.specs.Bits.{sum}
use Rattle.crc.specs.Table.{entries}
use Rattle.crc.proofs.Steps.{sixteen_is}
use Rattle.crc.proofs.sixteen.Goals as goal

pub returns : goal.returns
unfolding sum
returns c =
    let s = c.args in
    let t = s.t.now in
    ap₂ sum (c.eight.ensures ∙ ap (entries t 0 8) c.word.ensures)
    (ap₂ sum (c.eight-2.ensures ∙ ap (entries t 8 8) c.word-2.ensures)
    (ap₂ sum (c.eight-3.ensures ∙ ap (entries t 16 8) c.word-3.ensures)
    (c.eight-4.ensures ∙ ap (λ (x : ℕ). entries t 24 8 (sum s.register x)) c.word-4.ensures)))
    ∙ sym (sixteen_is t s.register s.bytes.now (search rules))

-- One half byte more at each turn, to the highest.
-- Assumes nothing.
use mathlib.Core.Path.{refl, sym, ◌∙◌}
use Prim.Native.Nat.{ℕ}
use native.Mathlib.Omega.{arith}
use lib.Bits.{bit_xor, xor_lt}
use Rattle.code.proofs.Lists.{add_comm}
use Rattle.encoding.specs.InnerRegister.{both, through}
use Rattle.encoding.proofs.Turns.{turned, turning_more, turning_done}
use Rattle.encoding.proofs.register.turn.Goals as goal

pub loop-k-preserved : goal.loop-k-preserved
loop-k-preserved c =
    turning_more _ _ _ _ _ _ _ _ c.args.t.now.ruled c.loop-k-test.true refl c.loop-k.invariant

pub returns : goal.returns
returns c =
    let s = c.args in
    let w : ℕ = bit_xor s.r.h s.x in
    turning_done w s.r.l _ _ _ _ c.loop-k-test.false (xor_lt 64 s.r.h s.x (omega arith) (omega arith)) c.loop-k.invariant
    ∙ add_comm (both s.r.l 0) (through w) ∙ sym (turned s.r.h s.r.l s.x)

-- `register::turn` moves the register up by eight bytes and adds what the bytes that leave it leave behind, one half byte after the other. The invariant: what is added,
-- and what the rest of the word still leaves, make the whole (`Turning`). Assumes nothing.
use Rattle.encoding.proofs.Turns.{Turning}
use Rattle.encoding.proofs.register.turn.Given as goal

abbrev pub invariant-loop-k : goal.invariant-loop-k
invariant-loop-k l = Turning l.initial.w l.initial.h l.w l.h l.l l.k

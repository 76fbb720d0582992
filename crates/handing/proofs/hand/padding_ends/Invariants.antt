-- One slot a turn, to the first whose rows hold another byte than 0 beyond the file's end. Invariant, `Looking`: the slots before k hold q rows, and these
-- hold 0 there.
use Rattle.handing.proofs.PassLaws.{Looking}
use Rattle.handing.proofs.hand.padding_ends.Given as goal

abbrev pub invariant-loop-k : goal.invariant-loop-k
invariant-loop-k l = Looking l.p l.store l.n l.q l.k

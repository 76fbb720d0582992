-- The places are written one after the other. Invariant: `Putting`, the first i stand and the rest makes the whole.
use Rattle.holding.proofs.RecordLaws.{Putting}
use Rattle.holding.proofs.record_bytes.Given as goal

abbrev pub invariant-loop-i : goal.invariant-loop-i
invariant-loop-i l = Putting l.fn.held.places l.out l.i

-- One slot a turn. Invariant, `Laying`: the q rows that the slots before k hold are written where they belong.
use Rattle.handing.proofs.PassLaws.{Laying}
use Rattle.handing.proofs.hand.write_rows.Given as goal

abbrev pub invariant-loop-k : goal.invariant-loop-k
invariant-loop-k l = Laying l.p l.store l.n l.initial.out l.out l.q l.k

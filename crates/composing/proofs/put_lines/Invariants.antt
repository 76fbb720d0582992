-- One line is written behind the other. Invariant: what is left to write makes what all makes, `Lined`.
use Rattle.composing.specs.Inner.{pieces}
use Rattle.composing.proofs.LineLaws.{Lined}
use Rattle.composing.proofs.put_lines.Given as goal

abbrev pub invariant-loop-k : goal.invariant-loop-k
invariant-loop-k l = Lined l.text (pieces l.d) l.initial.out l.out l.at l.k

-- Of another length they have another form. Else each byte is held to the form. Invariant: what is left says what all says.
use Rattle.times.proofs.FormLaws.{Forming}
use Rattle.times.proofs.formed.Given as goal

abbrev pub invariant-loop-i : goal.invariant-loop-i
invariant-loop-i l = Forming l.form l.bytes l.i

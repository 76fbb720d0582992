-- One byte after the other is taken from what is awaited. Invariant: what is left, behind what is awaited, is well formed as all is. At the end nothing may be
-- awaited.
use Rattle.texts.proofs.Utf8Laws.{Reading}
use Rattle.texts.proofs.well_formed.Given as goal

abbrev pub invariant-loop-b : goal.invariant-loop-b
invariant-loop-b l = Reading l.bytes l.wait.0 l.wait.1 l.wait.2 l.b-index

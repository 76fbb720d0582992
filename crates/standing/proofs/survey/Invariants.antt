-- One slot a turn, to the first whose length is wrong; a place that passes the end of the store is not read. Invariant, `Surveying`: what was seen of the slots
-- before k and what is left say what the contents say.
use Rattle.standing.proofs.SurveyLaws.{Surveying}
use Rattle.standing.proofs.survey.Given as goal

abbrev pub invariant-loop-k : goal.invariant-loop-k
invariant-loop-k l = Surveying l.p l.store l.filled l.empty l.bytes l.k

-- One result (document 01, section 7) of each public call of crate standing, by that call's own contract.
-- Assumes nothing.
use borrow.Fn.Kinds.{ended_of}
use mathlib.Core.Path.{refl}
use Rattle.ground.proofs.OneResult.{equation}
use Rattle.results.specs.OneResult.{OneResult}
use Rattle.standing.proofs as standing

pub survey_one : OneResult (ended_of _ standing.survey.Kinds.ps standing.survey.Kinds.r) standing.survey.Reads.Learnt
survey_one κs a r s d e p q = (equation p q, refl)

pub status_one : OneResult (ended_of _ standing.status.Kinds.ps standing.status.Kinds.r) standing.status.Reads.Learnt
status_one κs a r s d e p q = (equation p q, refl)

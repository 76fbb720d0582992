-- One result (document 01, section 7) of each public call of crate answers, by that call's own contract.
-- Assumes nothing.
use borrow.Fn.Kinds.{ended_of}
use mathlib.Core.Path.{refl}
use Rattle.ground.proofs.OneResult.{equation}
use Rattle.results.specs.OneResult.{OneResult}
use Rattle.results.proofs.Lent.{after, lent}
use Rattle.answers.proofs as answers

pub refused_one : OneResult (ended_of _ answers.refused.Kinds.ps answers.refused.Kinds.r) answers.refused.Reads.Learnt
refused_one κs a r s d e p q = (equation p q, refl)

pub verdict_of_one : OneResult (ended_of _ answers.verdict_of.Kinds.ps answers.verdict_of.Kinds.r) answers.verdict_of.Reads.Learnt
verdict_of_one κs a r s d e p q = (equation p q, refl)

pub length_as_one : OneResult (ended_of _ answers.length_as.Kinds.ps answers.length_as.Kinds.r) answers.length_as.Reads.Learnt
length_as_one κs a r s d e p q = (equation p q, refl)

pub offered_as_one : OneResult (ended_of _ answers.offered_as.Kinds.ps answers.offered_as.Kinds.r) answers.offered_as.Reads.Learnt
offered_as_one κs a r s d e p q = (equation p q, refl)

pub standing_as_one : OneResult (ended_of _ answers.standing_as.Kinds.ps answers.standing_as.Kinds.r) answers.standing_as.Reads.Learnt
standing_as_one κs a r s d e p q = (equation p q, refl)

pub put_if_one : OneResult (ended_of _ answers.put_if.Kinds.ps answers.put_if.Kinds.r) answers.put_if.Reads.Learnt
put_if_one κs a r s d e p q = (equation p.answers q.answers, after 2 (lent (equation p.leaves q.leaves) refl))

pub with_value_one : OneResult (ended_of _ answers.with_value.Kinds.ps answers.with_value.Kinds.r) answers.with_value.Reads.Learnt
with_value_one κs a r s d e p q = (equation p q, refl)

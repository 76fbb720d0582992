-- One result (document 01, section 7) of each public call of crate repair, by that call's own contract.
-- Assumes nothing.
use borrow.Fn.Kinds.{ended_of}
use mathlib.Core.Path.{refl}
use Rattle.ground.proofs.OneResult.{equation}
use Rattle.results.specs.OneResult.{OneResult}
use Rattle.results.proofs.Lent.{after, lent}
use Rattle.repair.proofs as repair

pub mend_one : OneResult (ended_of _ repair.mend.Kinds.ps repair.mend.Kinds.r) repair.mend.Reads.Learnt
mend_one κs a r s d e p q = (equation p.answers q.answers, after 0 (lent (equation p.leaves q.leaves) refl))

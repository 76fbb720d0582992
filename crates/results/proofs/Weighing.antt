-- One result (document 01, section 7) of the public call of crate weighing, by that call's own contract.
-- Assumes nothing.
use borrow.Fn.Kinds.{ended_of}
use mathlib.Core.Path.{refl}
use Rattle.ground.proofs.OneResult.{equation}
use Rattle.results.specs.OneResult.{OneResult}
use Rattle.weighing.proofs as weighing

pub weigh_one : OneResult (ended_of _ weighing.weigh.Kinds.ps weighing.weigh.Kinds.r) weighing.weigh.Reads.Learnt
weigh_one κs a r s d e p q = (equation p q, refl)

-- One result (document 01, section 7) of each public call of crate refusals, by that call's own contract.
-- Assumes nothing.
use borrow.Fn.Kinds.{ended_of}
use mathlib.Core.Path.{refl}
use Rattle.ground.proofs.OneResult.{equation}
use Rattle.results.specs.OneResult.{OneResult}
use Rattle.refusals.proofs as refusals

pub number_one : OneResult (ended_of _ refusals.number.Kinds.ps refusals.number.Kinds.r) refusals.number.Reads.Learnt
number_one κs a r s d e p q = (equation p q, refl)

pub value_one : OneResult (ended_of _ refusals.value.Kinds.ps refusals.value.Kinds.r) refusals.value.Reads.Learnt
value_one κs a r s d e p q = (equation p q, refl)

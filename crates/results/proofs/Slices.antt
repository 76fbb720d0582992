-- One result (document 01, section 7) of each public call of crate slices, by that call's own contract.
-- Assumes nothing.
use borrow.Fn.Kinds.{ended_of}
use mathlib.Core.Path.{refl}
use Rattle.ground.proofs.OneResult.{equation}
use Rattle.results.specs.OneResult.{OneResult}
use Rattle.results.proofs.Lent.{lent}
use Rattle.slices.proofs as slices

pub copy_in_one : OneResult (ended_of _ slices.copy_in.Kinds.ps slices.copy_in.Kinds.r) slices.copy_in.Reads.Learnt
copy_in_one κs a r s d e p q = (refl, lent (equation p q) refl)

pub same_one : OneResult (ended_of _ slices.same.Kinds.ps slices.same.Kinds.r) slices.same.Reads.Learnt
same_one κs a r s d e p q = (equation p q, refl)

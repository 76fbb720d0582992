-- One result (document 01, section 7) of each public call of crate single, by that call's own contract.
-- Assumes nothing.
use borrow.Fn.Kinds.{ended_of}
use mathlib.Core.Path.{refl}
use Rattle.ground.proofs.OneResult.{equation}
use Rattle.results.specs.OneResult.{OneResult}
use Rattle.single.proofs as single

pub repair_one : OneResult (ended_of _ single.repair.Kinds.ps single.repair.Kinds.r) single.repair.Reads.Learnt
repair_one κs a r s d e p q = (equation p q, refl)

pub repair_row_one : OneResult (ended_of _ single.repair_row.Kinds.ps single.repair_row.Kinds.r) single.repair_row.Reads.Learnt
repair_row_one κs a r s d e p q = (equation p q, refl)

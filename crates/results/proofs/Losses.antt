-- One result (document 01, section 7) of each public call of crate losses, by that call's own contract.
-- Assumes nothing.
use borrow.Fn.Kinds.{ended_of}
use mathlib.Core.Path.{refl}
use Rattle.ground.proofs.OneResult.{equation}
use Rattle.results.specs.OneResult.{OneResult}
use Rattle.losses.proofs as losses

pub gather_one : OneResult (ended_of _ losses.gather.Kinds.ps losses.gather.Kinds.r) losses.gather.Reads.Learnt
gather_one κs a r s d e p q = (equation p q, refl)

pub is_tabled_one : OneResult (ended_of _ losses.is_tabled.Kinds.ps losses.is_tabled.Kinds.r) losses.is_tabled.Reads.Learnt
is_tabled_one κs a r s d e p q = (equation p q, refl)

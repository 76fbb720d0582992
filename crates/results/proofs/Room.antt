-- One result (document 01, section 7) of each public call of crate room, by that call's own contract.
-- Assumes nothing.
use borrow.Fn.Kinds.{ended_of}
use mathlib.Core.Path.{refl}
use Rattle.ground.proofs.OneResult.{equation}
use Rattle.results.specs.OneResult.{OneResult}
use Rattle.room.proofs as room

pub is_good_one : OneResult (ended_of _ room.is_good.Kinds.ps room.is_good.Kinds.r) room.is_good.Reads.Learnt
is_good_one κs a r s d e p q = (equation p q, refl)

pub lowest_start_one : OneResult (ended_of _ room.lowest_start.Kinds.ps room.lowest_start.Kinds.r) room.lowest_start.Reads.Learnt
lowest_start_one κs a r s d e p q = (equation p q, refl)

-- One result (document 01, section 7) of each public call of crate solving, by that call's own contract.
-- Assumes nothing.
use borrow.Fn.Kinds.{ended_of}
use mathlib.Core.Path.{refl}
use Rattle.ground.proofs.OneResult.{equation}
use Rattle.results.specs.OneResult.{OneResult}
use Rattle.solving.proofs as solving

pub find_one : OneResult (ended_of _ solving.find.Kinds.ps solving.find.Kinds.r) solving.find.Reads.Learnt
find_one κs a r s d e p q = (equation p q, refl)

pub fill_one : OneResult (ended_of _ solving.fill.Kinds.ps solving.fill.Kinds.r) solving.fill.Reads.Learnt
fill_one κs a r s d e p q = (equation p q, refl)

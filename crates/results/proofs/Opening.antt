-- One result (document 01, section 7) of each public call of crate opening, by that call's own contract.
-- Assumes nothing.
use borrow.Fn.Kinds.{ended_of}
use mathlib.Core.Path.{refl}
use Rattle.ground.proofs.OneResult.{equation}
use Rattle.results.specs.OneResult.{OneResult}
use Rattle.results.proofs.Lent.{after, lent}
use Rattle.opening.proofs as opening

pub open_one : OneResult (ended_of _ opening.«open».Kinds.ps opening.«open».Kinds.r) opening.«open».Reads.Learnt
open_one κs a r s d e p q = (equation p.answers q.answers, after 1 (lent (equation p.leaves q.leaves) refl))

pub open_house_one : OneResult (ended_of _ opening.open_house.Kinds.ps opening.open_house.Kinds.r) opening.open_house.Reads.Learnt
open_house_one κs a r s d e p q = (equation p.answers q.answers, after 1 (lent (equation p.leaves q.leaves) refl))

pub close_one : OneResult (ended_of _ opening.close.Kinds.ps opening.close.Kinds.r) opening.close.Reads.Learnt
close_one κs a r s d e p q = (equation p q, refl)

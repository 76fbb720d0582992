-- One result (document 01, section 7) of each public call of crate pack, by that call's own contract.
-- Assumes nothing.
use borrow.Fn.Kinds.{ended_of}
use mathlib.Core.Path.{refl}
use Rattle.ground.proofs.OneResult.{equation}
use Rattle.results.specs.OneResult.{OneResult}
use Rattle.results.proofs.Lent.{after, lent}
use Rattle.pack.proofs as pack

pub pack_one : OneResult (ended_of _ pack.pack.Kinds.ps pack.pack.Kinds.r) pack.pack.Reads.Learnt
pack_one κs a r s d e p q = (equation p.answer q.answer, after 3 (lent (equation p.output q.output) refl))

pub pack_house_one : OneResult (ended_of _ pack.pack_house.Kinds.ps pack.pack_house.Kinds.r) pack.pack_house.Reads.Learnt
pack_house_one κs a r s d e p q = (equation p.answer q.answer, after 5 (lent (equation p.output q.output) refl))

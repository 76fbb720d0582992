-- One result (document 01, section 7) of the public call of crate offering, by that call's own contract.
-- Assumes nothing.
use borrow.Fn.Kinds.{ended_of}
use mathlib.Core.Path.{refl}
use Rattle.ground.proofs.OneResult.{equation}
use Rattle.results.specs.OneResult.{OneResult}
use Rattle.results.proofs.Lent.{after, lent}
use Rattle.offering.proofs as offering

pub offer_one : OneResult (ended_of _ offering.offer.Kinds.ps offering.offer.Kinds.r) offering.offer.Reads.Learnt
offer_one κs a r s d e p q = (equation p.0 q.0, after 1 (lent (equation p.1 q.1) refl))

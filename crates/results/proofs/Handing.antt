-- One result (document 01, section 7) of each public call of crate handing, by that call's own contract.
-- Assumes nothing.
use borrow.Fn.Kinds.{ended_of}
use mathlib.Core.Path.{refl}
use Rattle.ground.proofs.OneResult.{equation}
use Rattle.results.specs.OneResult.{OneResult}
use Rattle.results.proofs.Lent.{after, lent}
use Rattle.handing.proofs as handing

pub hand_place_one : OneResult (ended_of _ handing.hand_place.Kinds.ps handing.hand_place.Kinds.r) handing.hand_place.Reads.Learnt
hand_place_one κs a r s d e p q = (equation p.0 q.0, after 3 (lent (equation p.1 q.1) refl))

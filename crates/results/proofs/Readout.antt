-- One result (document 01, section 7) of each public call of crate readout, by that call's own contract.
-- Assumes nothing.
use borrow.Fn.Kinds.{ended_of}
use mathlib.Core.Path.{refl}
use Rattle.ground.proofs.OneResult.{equation}
use Rattle.results.specs.OneResult.{OneResult}
use Rattle.results.proofs.Lent.{after, lent}
use Rattle.readout.proofs as readout

pub hand_out_one : OneResult (ended_of _ readout.hand_out.Kinds.ps readout.hand_out.Kinds.r) readout.hand_out.Reads.Learnt
hand_out_one κs a r s d e p q = (equation p.0 q.0, after 4 (lent (equation p.1 q.1) refl))

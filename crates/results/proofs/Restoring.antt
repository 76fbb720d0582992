-- One result (document 01, section 7) of the public call of crate restoring, by that call's own contract.
-- Assumes nothing.
use borrow.Fn.Kinds.{ended_of}
use mathlib.Core.Path.{refl}
use Rattle.ground.proofs.OneResult.{equation}
use Rattle.results.specs.OneResult.{OneResult}
use Rattle.results.proofs.Lent.{after, lent}
use Rattle.restoring.proofs as restoring

pub hand_columns_one : OneResult (ended_of _ restoring.hand_columns.Kinds.ps restoring.hand_columns.Kinds.r) restoring.hand_columns.Reads.Learnt
hand_columns_one κs a r s d e p q = (equation p.0 q.0, after 3 (lent (equation p.1 q.1) refl))

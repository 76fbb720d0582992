-- One result (document 01, section 7) of each public call of the crate holding, by that call's own contract.
-- Assumes nothing.
use borrow.Fn.Kinds.{ended_of}
use mathlib.Core.Path.{refl}
use Rattle.ground.proofs.OneResult.{equation}
use Rattle.results.specs.OneResult.{OneResult}
use Rattle.results.proofs.Lent.{after, lent}
use Rattle.holding.proofs as holding

pub record_in_one : OneResult (ended_of _ holding.record_in.Kinds.ps holding.record_in.Kinds.r) holding.record_in.Reads.Learnt
record_in_one κs a r s d e p q = (equation p q, refl)

pub put_record_one : OneResult (ended_of _ holding.put_record.Kinds.ps holding.put_record.Kinds.r) holding.put_record.Reads.Learnt
put_record_one κs a r s d e p q = (refl, after 1 (lent (equation p q) refl))

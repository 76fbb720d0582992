-- One result (document 01, section 7) of the public call of crate storing, by that call's own contract.
-- Assumes nothing.
use borrow.Fn.Kinds.{ended_of}
use mathlib.Core.Path.{refl}
use Rattle.ground.proofs.OneResult.{equation}
use Rattle.results.specs.OneResult.{OneResult}
use Rattle.results.proofs.Lent.{after, lent}
use Rattle.storing.proofs as storing

pub put_in_one : OneResult (ended_of _ storing.put_in.Kinds.ps storing.put_in.Kinds.r) storing.put_in.Reads.Learnt
put_in_one κs a r s d e p q = (equation p.0 q.0, after 1 (lent (equation p.1 q.1) refl))

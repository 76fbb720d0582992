-- One result (document 01, section 7) of each public call of crate sealing, by that call's own contract.
-- Assumes nothing.
use borrow.Fn.Kinds.{ended_of}
use mathlib.Core.Path.{refl}
use Rattle.ground.proofs.OneResult.{equation}
use Rattle.results.specs.OneResult.{OneResult}
use Rattle.results.proofs.Lent.{lent}
use Rattle.sealing.proofs as sealing

pub seal_one : OneResult (ended_of _ sealing.seal.Kinds.ps sealing.seal.Kinds.r) sealing.seal.Reads.Learnt
seal_one κs a r s d e p q = (equation p.0 q.0, lent (equation p.1 q.1) refl)

pub agrees_one : OneResult (ended_of _ sealing.agrees.Kinds.ps sealing.agrees.Kinds.r) sealing.agrees.Reads.Learnt
agrees_one κs a r s d e p q = (equation p q, refl)

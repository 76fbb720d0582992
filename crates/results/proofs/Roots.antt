-- One result (document 01, section 7) of each public call of crate roots, by that call's own contract.
-- Assumes nothing.
use borrow.Fn.Kinds.{ended_of}
use mathlib.Core.Path.{refl}
use Rattle.ground.proofs.OneResult.{equation}
use Rattle.results.specs.OneResult.{OneResult}
use Rattle.roots.proofs as roots

pub find_one : OneResult (ended_of _ roots.find.Kinds.ps roots.find.Kinds.r) roots.find.Reads.Learnt
find_one κs a r s d e p q = (equation p q, refl)

-- One result (document 01, section 7) of the public call of crate errata, by that call's own contract.
-- Assumes nothing.
use borrow.Fn.Kinds.{ended_of}
use mathlib.Core.Path.{refl}
use Rattle.ground.proofs.OneResult.{equation}
use Rattle.results.specs.OneResult.{OneResult}
use Rattle.errata.proofs as errata

pub added_to_one : OneResult (ended_of _ errata.Errata.added_to.Kinds.ps errata.Errata.added_to.Kinds.r) errata.Errata.added_to.Reads.Learnt
added_to_one κs a r s d e p q = (equation p q, refl)

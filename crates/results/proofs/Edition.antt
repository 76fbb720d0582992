-- One result (document 01, section 7) of each public call of crate edition, by that call's own contract.
-- Assumes nothing.
use borrow.Fn.Kinds.{ended_of}
use mathlib.Core.Path.{refl}
use Rattle.ground.proofs.OneResult.{equation}
use Rattle.results.specs.OneResult.{OneResult}
use Rattle.edition.proofs as edition

pub spare_of_one : OneResult (ended_of _ edition.spare_of.Kinds.ps edition.spare_of.Kinds.r) edition.spare_of.Reads.Learnt
spare_of_one κs a r s d e p q = (equation p q, refl)

pub edition_of_one : OneResult (ended_of _ edition.edition_of.Kinds.ps edition.edition_of.Kinds.r) edition.edition_of.Reads.Learnt
edition_of_one κs a r s d e p q = (equation p q, refl)

-- One result (document 01, section 7) of each public call of crate settings, by that call's own contract.
-- Assumes nothing.
use borrow.Fn.Kinds.{ended_of}
use mathlib.Core.Path.{refl}
use Rattle.ground.proofs.OneResult.{equation}
use Rattle.results.specs.OneResult.{OneResult}
use Rattle.settings.proofs as settings

pub row_wise_one : OneResult (ended_of _ settings.row_wise.Kinds.ps settings.row_wise.Kinds.r) settings.row_wise.Reads.Learnt
row_wise_one κs a r s d e p q = (equation p q, refl)

pub size_fits_one : OneResult (ended_of _ settings.size_fits.Kinds.ps settings.size_fits.Kinds.r) settings.size_fits.Reads.Learnt
size_fits_one κs a r s d e p q = (equation p q, refl)

pub rows_held_one : OneResult (ended_of _ settings.rows_held.Kinds.ps settings.rows_held.Kinds.r) settings.rows_held.Reads.Learnt
rows_held_one κs a r s d e p q = (equation p q, refl)

pub rows_sent_one : OneResult (ended_of _ settings.rows_sent.Kinds.ps settings.rows_sent.Kinds.r) settings.rows_sent.Reads.Learnt
rows_sent_one κs a r s d e p q = (equation p q, refl)

pub house_one : OneResult (ended_of _ settings.house.Kinds.ps settings.house.Kinds.r) settings.house.Reads.Learnt
house_one κs a r s d e p q = (equation p q, refl)

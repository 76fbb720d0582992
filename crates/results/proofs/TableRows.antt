-- One result (document 01, section 7) of each public call of crate layout, by that call's own contract.
-- Assumes nothing.
use borrow.Fn.Kinds.{ended_of}
use mathlib.Core.Path.{refl}
use Rattle.ground.proofs.OneResult.{equation}
use Rattle.results.specs.OneResult.{OneResult}
use Rattle.layout.proofs as layout

pub rows_of_one : OneResult (ended_of _ layout.rows_of.Kinds.ps layout.rows_of.Kinds.r) layout.rows_of.Reads.Learnt
rows_of_one κs a r s d e p q = (equation p q, refl)

pub row_start_one : OneResult (ended_of _ layout.row_start.Kinds.ps layout.row_start.Kinds.r) layout.row_start.Reads.Learnt
row_start_one κs a r s d e p q = (equation p q, refl)

pub columns_within_one : OneResult (ended_of _ layout.columns_within.Kinds.ps layout.columns_within.Kinds.r) layout.columns_within.Reads.Learnt
columns_within_one κs a r s d e p q = (equation p q, refl)

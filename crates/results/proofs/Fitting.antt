-- One result (document 01, section 7) of each public call of crate fitting, by that call's own contract.
-- Assumes nothing.
use borrow.Fn.Kinds.{ended_of}
use mathlib.Core.Path.{refl}
use Rattle.ground.proofs.OneResult.{equation}
use Rattle.results.specs.OneResult.{OneResult}
use Rattle.fitting.proofs as fitting

pub settings_fit_one : OneResult (ended_of _ fitting.settings_fit.Kinds.ps fitting.settings_fit.Kinds.r) fitting.settings_fit.Reads.Learnt
settings_fit_one κs a r s d e p q = (equation p q, refl)

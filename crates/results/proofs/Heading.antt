-- One result (document 01, section 7) of each public call of crate heading, by that call's own contract.
-- Assumes nothing.
use borrow.Fn.Kinds.{ended_of}
use mathlib.Core.Path.{refl}
use Rattle.ground.proofs.OneResult.{equation}
use Rattle.results.specs.OneResult.{OneResult}
use Rattle.heading.proofs as heading

pub header_one : OneResult (ended_of _ heading.header.Kinds.ps heading.header.Kinds.r) heading.header.Reads.Learnt
header_one κs a r s d e p q = (equation p q, refl)

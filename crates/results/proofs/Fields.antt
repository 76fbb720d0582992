-- One result (document 01, section 7) of each public call of crate fields, by that call's own contract.
-- Assumes nothing.
use borrow.Fn.Kinds.{ended_of}
use mathlib.Core.Path.{refl}
use Rattle.ground.proofs.OneResult.{equation}
use Rattle.results.specs.OneResult.{OneResult}
use Rattle.fields.proofs as fields

pub read_fields_one : OneResult (ended_of _ fields.read_fields.Kinds.ps fields.read_fields.Kinds.r) fields.read_fields.Reads.Learnt
read_fields_one κs a r s d e p q = (equation p q, refl)

pub read_header_one : OneResult (ended_of _ fields.read_header.Kinds.ps fields.read_header.Kinds.r) fields.read_header.Reads.Learnt
read_header_one κs a r s d e p q = (equation p q, refl)

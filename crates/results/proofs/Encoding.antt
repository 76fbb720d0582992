-- One result (document 01, section 7) of each public call of crate encoding, by that call's own contract.
-- Assumes nothing.
use borrow.Fn.Kinds.{ended_of}
use mathlib.Core.Path.{refl}
use Rattle.ground.proofs.OneResult.{equation}
use Rattle.results.specs.OneResult.{OneResult}
use Rattle.results.proofs.Lent.{lent}
use Rattle.encoding.proofs as encoding

pub generator_one : OneResult (ended_of _ encoding.generator.Kinds.ps encoding.generator.Kinds.r) encoding.generator.Reads.Learnt
generator_one κs a r s d e p q = (equation p q, refl)

pub encode_row_one : OneResult (ended_of _ encoding.encode_row.Kinds.ps encoding.encode_row.Kinds.r) encoding.encode_row.Reads.Learnt
encode_row_one κs a r s d e p q = (equation p q, refl)

pub put_checks_one : OneResult (ended_of _ encoding.put_checks.Kinds.ps encoding.put_checks.Kinds.r) encoding.put_checks.Reads.Learnt
put_checks_one κs a r s d e p q = (refl, lent (equation p q) refl)

pub remainders_one : OneResult (ended_of _ encoding.remainders.Kinds.ps encoding.remainders.Kinds.r) encoding.remainders.Reads.Learnt
remainders_one κs a r s d e p q = (equation p q, refl)

-- One result (document 01, section 7) of the public call of crate filling, by that call's own contract.
-- Assumes nothing.
use borrow.Fn.Kinds.{ended_of}
use mathlib.Core.Path.{refl}
use Rattle.ground.proofs.OneResult.{equation}
use Rattle.results.specs.OneResult.{OneResult}
use Rattle.results.proofs.Lent.{after, lent}
use Rattle.filling.proofs as filling

pub put_rows_one : OneResult (ended_of _ filling.put_rows.Kinds.ps filling.put_rows.Kinds.r) filling.put_rows.Reads.Learnt
put_rows_one κs a r s d e p q = (equation p.0 q.0, after 4 (lent (equation p.1 q.1) refl))

-- One result (document 01, section 7) of each public call of crate contents, by that call's own contract.
-- Assumes nothing.
use borrow.Fn.Kinds.{ended_of}
use mathlib.Core.Path.{refl}
use Rattle.ground.proofs.OneResult.{equation}
use Rattle.results.specs.OneResult.{OneResult}
use Rattle.results.proofs.Lent.{lent}
use Rattle.contents.proofs as contents

pub slot_length_one : OneResult (ended_of _ contents.slot_length.Kinds.ps contents.slot_length.Kinds.r) contents.slot_length.Reads.Learnt
slot_length_one κs a r s d e p q = (equation p q, refl)

pub length_fits_one : OneResult (ended_of _ contents.length_fits.Kinds.ps contents.length_fits.Kinds.r) contents.length_fits.Reads.Learnt
length_fits_one κs a r s d e p q = (equation p q, refl)

pub put_slot_one : OneResult (ended_of _ contents.put_slot.Kinds.ps contents.put_slot.Kinds.r) contents.put_slot.Reads.Learnt
put_slot_one κs a r s d e p q = (equation p.0 q.0, lent (equation p.1 q.1) refl)

-- One result (document 01, section 7) of each public call of crate words, by that call's own contract.
-- Assumes nothing.
use borrow.Fn.Kinds.{ended_of}
use mathlib.Core.Path.{refl}
use Rattle.ground.proofs.OneResult.{equation}
use Rattle.results.specs.OneResult.{OneResult}
use Rattle.words.proofs as words

pub wide_one : OneResult (ended_of _ words.wide.Kinds.ps words.wide.Kinds.r) words.wide.Reads.Learnt
wide_one κs a r s d e p q = (equation p.0 q.0, refl)

pub wide32_one : OneResult (ended_of _ words.wide32.Kinds.ps words.wide32.Kinds.r) words.wide32.Reads.Learnt
wide32_one κs a r s d e p q = (equation p.0 q.0, refl)

pub index_one : OneResult (ended_of _ words.index.Kinds.ps words.index.Kinds.r) words.index.Reads.Learnt
index_one κs a r s d e p q = (equation p.0 q.0, refl)

pub byte_one : OneResult (ended_of _ words.byte.Kinds.ps words.byte.Kinds.r) words.byte.Reads.Learnt
byte_one κs a r s d e p q = (equation p q, refl)

pub within_one : OneResult (ended_of _ words.within.Kinds.ps words.within.Kinds.r) words.within.Reads.Learnt
within_one κs a r s d e p q = (equation p q, refl)

pub lesser_one : OneResult (ended_of _ words.lesser.Kinds.ps words.lesser.Kinds.r) words.lesser.Reads.Learnt
lesser_one κs a r s d e p q = (equation p q, refl)

pub over_one : OneResult (ended_of _ words.over.Kinds.ps words.over.Kinds.r) words.over.Reads.Learnt
over_one κs a r s d e p q = (equation p q, refl)

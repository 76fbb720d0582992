-- One result (document 01, section 7) of each public call of crate checksum, by that call's own contract.
-- Assumes nothing.
use borrow.Fn.Kinds.{ended_of}
use mathlib.Core.Path.{refl}
use Rattle.ground.proofs.OneResult.{equation}
use Rattle.results.specs.OneResult.{OneResult}
use Rattle.checksum.proofs as checksum

pub crc32_one : OneResult (ended_of _ checksum.crc32.Kinds.ps checksum.crc32.Kinds.r) checksum.crc32.Reads.Learnt
crc32_one κs a r s d e p q = (equation p q, refl)

pub start_one : OneResult (ended_of _ checksum.start.Kinds.ps checksum.start.Kinds.r) checksum.start.Reads.Learnt
start_one κs a r s d e p q = (equation p q, refl)

pub feed_one : OneResult (ended_of _ checksum.feed.Kinds.ps checksum.feed.Kinds.r) checksum.feed.Reads.Learnt
feed_one κs a r s d e p q = (equation p q, refl)

pub finish_one : OneResult (ended_of _ checksum.finish.Kinds.ps checksum.finish.Kinds.r) checksum.finish.Reads.Learnt
finish_one κs a r s d e p q = (equation p q, refl)

-- One result (document 01, section 7) of each public call of crate places, by that call's own contract.
-- Assumes nothing.
use borrow.Fn.Kinds.{ended_of}
use mathlib.Core.Path.{refl}
use Rattle.ground.proofs.OneResult.{equation}
use Rattle.results.specs.OneResult.{OneResult}
use Rattle.places.proofs as places

pub fresh_one : OneResult (ended_of _ places.fresh.Kinds.ps places.fresh.Kinds.r) places.fresh.Reads.Learnt
fresh_one κs a r s d e p q = (equation p q, refl)

pub holds_one : OneResult (ended_of _ places.holds.Kinds.ps places.holds.Kinds.r) places.holds.Reads.Learnt
holds_one κs a r s d e p q = (equation p q, refl)

pub find_place_one : OneResult (ended_of _ places.find_place.Kinds.ps places.find_place.Kinds.r) places.find_place.Reads.Learnt
find_place_one κs a r s d e p q = (equation p q, refl)

pub find_unused_one : OneResult (ended_of _ places.find_unused.Kinds.ps places.find_unused.Kinds.r) places.find_unused.Reads.Learnt
find_unused_one κs a r s d e p q = (equation p q, refl)

pub cover_of_one : OneResult (ended_of _ places.cover_of.Kinds.ps places.cover_of.Kinds.r) places.cover_of.Reads.Learnt
cover_of_one κs a r s d e p q = (equation p q, refl)

pub end_of_one : OneResult (ended_of _ places.end_of.Kinds.ps places.end_of.Kinds.r) places.end_of.Reads.Learnt
end_of_one κs a r s d e p q = (equation p q, refl)

pub count_fits_one : OneResult (ended_of _ places.count_fits.Kinds.ps places.count_fits.Kinds.r) places.count_fits.Reads.Learnt
count_fits_one κs a r s d e p q = (equation p q, refl)

pub place_of_one : OneResult (ended_of _ places.place_of.Kinds.ps places.place_of.Kinds.r) places.place_of.Reads.Learnt
place_of_one κs a r s d e p q = (equation p q, refl)

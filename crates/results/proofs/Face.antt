-- One result (document 01, section 7) of each public call of the crates face and brithelva, by that call's own contract.
-- Assumes nothing.
use borrow.Fn.Kinds.{ended_of}
use mathlib.Core.Path.{refl}
use Rattle.ground.proofs.OneResult.{equation}
use Rattle.results.specs.OneResult.{OneResult}
use Rattle.results.proofs.Lent.{after, lent}
use Rattle.face.proofs as face
use Rattle.brithelva.proofs as brithelva

pub put_one : OneResult (ended_of _ face.put.Kinds.ps face.put.Kinds.r) face.put.Reads.Learnt
put_one κs a r s d e p q = (equation p.answers q.answers, after 1 (lent (equation p.leaves q.leaves) refl))

pub put_fields_one : OneResult (ended_of _ face.put_fields.Kinds.ps face.put_fields.Kinds.r) face.put_fields.Reads.Learnt
put_fields_one κs a r s d e p q = (equation p.answers q.answers, after 1 (lent (equation p.leaves q.leaves) refl))

pub bh_crc32_one : OneResult (ended_of _ brithelva.bh_crc32.Kinds.ps brithelva.bh_crc32.Kinds.r) brithelva.bh_crc32.Reads.Learnt
bh_crc32_one κs a r s d e p q = (equation p q, refl)

pub bh_encode_row_one : OneResult (ended_of _ brithelva.bh_encode_row.Kinds.ps brithelva.bh_encode_row.Kinds.r) brithelva.bh_encode_row.Reads.Learnt
bh_encode_row_one κs a r s d e p q = (equation p.answers q.answers, after 1 (lent (equation p.leaves q.leaves) refl))

pub bh_repair_row_one : OneResult (ended_of _ brithelva.bh_repair_row.Kinds.ps brithelva.bh_repair_row.Kinds.r) brithelva.bh_repair_row.Reads.Learnt
bh_repair_row_one κs a r s d e p q = (equation p.answers q.answers, after 1 (lent (equation p.leaves q.leaves) refl))

pub bh_read_fields_one : OneResult (ended_of _ brithelva.bh_read_fields.Kinds.ps brithelva.bh_read_fields.Kinds.r) brithelva.bh_read_fields.Reads.Learnt
bh_read_fields_one κs a r s d e p q = (equation p.answers q.answers, after 1 (lent (equation p.leaves q.leaves) refl))

pub bh_read_header_one : OneResult (ended_of _ brithelva.bh_read_header.Kinds.ps brithelva.bh_read_header.Kinds.r) brithelva.bh_read_header.Reads.Learnt
bh_read_header_one κs a r s d e p q = (equation p.answers q.answers, after 1 (lent (equation p.leaves q.leaves) refl))

pub bh_pack_as_one : OneResult (ended_of _ brithelva.bh_pack_as.Kinds.ps brithelva.bh_pack_as.Kinds.r) brithelva.bh_pack_as.Reads.Learnt
bh_pack_as_one κs a r s d e p q = (equation p.answers q.answers, after 10 (lent (equation p.leaves q.leaves) refl))

pub bh_pack_one : OneResult (ended_of _ brithelva.bh_pack.Kinds.ps brithelva.bh_pack.Kinds.r) brithelva.bh_pack.Reads.Learnt
bh_pack_one κs a r s d e p q = (equation p.answers q.answers, after 8 (lent (equation p.leaves q.leaves) refl))

pub bh_pack_house_one : OneResult (ended_of _ brithelva.bh_pack_house.Kinds.ps brithelva.bh_pack_house.Kinds.r) brithelva.bh_pack_house.Reads.Learnt
bh_pack_house_one κs a r s d e p q = (equation p.answers q.answers, after 5 (lent (equation p.leaves q.leaves) refl))

pub bh_open_as_one : OneResult (ended_of _ brithelva.bh_open_as.Kinds.ps brithelva.bh_open_as.Kinds.r) brithelva.bh_open_as.Reads.Learnt
bh_open_as_one κs a r s d e p q = (equation p.answers q.answers, lent (equation p.holds q.holds) (lent (equation p.leaves q.leaves) refl))

pub bh_open_one : OneResult (ended_of _ brithelva.bh_open.Kinds.ps brithelva.bh_open.Kinds.r) brithelva.bh_open.Reads.Learnt
bh_open_one κs a r s d e p q = (equation p.answers q.answers, lent (equation p.holds q.holds) (lent (equation p.leaves q.leaves) refl))

pub bh_open_house_one : OneResult (ended_of _ brithelva.bh_open_house.Kinds.ps brithelva.bh_open_house.Kinds.r) brithelva.bh_open_house.Reads.Learnt
bh_open_house_one κs a r s d e p q = (equation p.answers q.answers, lent (equation p.holds q.holds) (lent (equation p.leaves q.leaves) refl))

pub bh_offer_one : OneResult (ended_of _ brithelva.bh_offer.Kinds.ps brithelva.bh_offer.Kinds.r) brithelva.bh_offer.Reads.Learnt
bh_offer_one κs a r s d e p q = (equation p.answers q.answers, after 1 (lent (equation p.leaves q.leaves) refl))

pub bh_status_one : OneResult (ended_of _ brithelva.bh_status.Kinds.ps brithelva.bh_status.Kinds.r) brithelva.bh_status.Reads.Learnt
bh_status_one κs a r s d e p q = (equation p q, refl)

pub bh_hand_out_one : OneResult (ended_of _ brithelva.bh_hand_out.Kinds.ps brithelva.bh_hand_out.Kinds.r) brithelva.bh_hand_out.Reads.Learnt
bh_hand_out_one κs a r s d e p q = (equation p.answers q.answers, after 5 (lent (equation p.leaves q.leaves) refl))

pub bh_close_one : OneResult (ended_of _ brithelva.bh_close.Kinds.ps brithelva.bh_close.Kinds.r) brithelva.bh_close.Reads.Learnt
bh_close_one κs a r s d e p q = (equation p.answers q.answers, lent (equation p.holds q.holds) refl)

pub bh_read_description_one : OneResult (ended_of _ brithelva.bh_read_description.Kinds.ps brithelva.bh_read_description.Kinds.r) brithelva.bh_read_description.Reads.Learnt
bh_read_description_one κs a r s d e p q = (equation p.answers q.answers, after 1 (lent (equation p.leaves q.leaves) refl))

pub bh_write_description_one : OneResult (ended_of _ brithelva.bh_write_description.Kinds.ps brithelva.bh_write_description.Kinds.r) brithelva.bh_write_description.Reads.Learnt
bh_write_description_one κs a r s d e p q = (equation p.answers q.answers, after 2 (lent (equation p.leaves q.leaves) refl))

-- Bytes that are no record are refused; else the packet is offered to the record in them.
use mathlib.Core.Path.{refl}
use native.Mathlib.Omega.{arith}
use Rattle.face.proofs.HoldLaws.{offer_bad, offer_says_lem}
use Rattle.brithelva.proofs.bh_offer.Goals as goal

pub returns-then-held-ne-RECORD : goal.returns-then-held-ne-RECORD
returns-then-held-ne-RECORD c = offer_bad _ _ _ _ c.if-held-ne-RECORD.true refl

pub shape_of-store : goal.shape_of-store
shape_of-store c = omega arith

pub returns : goal.returns
returns c =
    offer_says_lem _ _ _ _ _ _ _ c.if-held-ne-RECORD.false c.record_in.ensures c.offer-offered.ensures.0
    c.offer-offered.ensures.1 c.offered_as.ensures

-- What a payload comes to at the slot of its number, of any place over any store: document 01, section 5, Offer.
-- Assumes nothing.
use Rattle.std.specs.Prelude.{Bool, cond, ◌&&◌, List, ℕ, ◌+◌, leb, length}
use Rattle.refusals.specs.declared.Refusal.{Refusal}
use Rattle.refusals.specs.declared.Refusal.TheVariants.{Crc}
use Rattle.places.specs.declared.Place.{Place}
use Rattle.contents.specs.Contents.{slot_at}
use Rattle.record.specs.Offer.{Judged, refuse, put, Offering, offer_judged}
use Rattle.std.specs.Prelude.{Err}

-- a payload of which m bytes were mended, with what is said of its CRC
abbrev pub judge_crc : ℕ → List ℕ → ℕ → Bool → Judged
judge_crc number b m agreed = cond agreed (put number b m) (refuse Crc)

-- the slot that starts at at lies in a store of size bytes, and has room for n
abbrev pub slot_has : Place → ℕ → ℕ → ℕ → Bool
slot_has p size at n = leb (at + (p.slot + 2)) size && leb n p.slot

-- refusal 9 where it does not, as at no place of a good record; else what the slot makes of the payload
unfoldable pub put_of : Place → List ℕ → ℕ → List ℕ → ℕ → Bool → Offering
put_of p s number b m agreed =
    cond (slot_has p (length s) (slot_at p number) (length b)) (offer_judged p s (judge_crc number b m agreed))
    (record { answer = Err Refusal.Record; store = s })

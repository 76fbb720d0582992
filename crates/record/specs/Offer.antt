-- Offer: document 01, section 5; by resource and type, document 02, R-1; with the bytes mended, R-7; in the place's own edition, R-9; in column order, R-8. Refusals in the order 9,
-- then 1 to 8 as the field reader gives them, 7 passed over where a place in column order holds resource and type, then 10, 11, 33, and 12 to 16.
-- Assumes nothing.
use Rattle.std.specs.Prelude.{Bool, false, cond, not, ◌&&◌, ◌||◌, List, [], ◌∷◌, ℕ, eqb, ltb, length, get_or}
use Rattle.slices.specs.Slices.{same}
use Rattle.refusals.specs.declared.Refusal.{Refusal}
use Rattle.refusals.specs.declared.Refusal.TheVariants.{Unknown, Other, Edition, Wide, Repair, Crc, Slot, Conflict}
use Rattle.packet.specs.declared.Packet.{Packet}
use Rattle.packet.specs.Packet.{resource_in, kind_in, read_by}
use Rattle.packet.specs.Edition.{edition_of}
use Rattle.settings.specs.Settings.{row_wise}
use Rattle.places.specs.declared.Place.{Place}
use Rattle.places.specs.declared.Record.{Record}
use Rattle.places.specs.declared.Name.{Name}
use Rattle.places.specs.Places.{unused, good, place_named}
use Rattle.contents.specs.Slots.{stored}
use Rattle.contents.specs.Contents.{Slot as Content, wrong, holding, slot_at, slot_of}
use Rattle.record.specs.declared.Offered.{Offered}
use Rattle.record.specs.declared.Offered.TheVariants.{Stored, Repeat}
use Rattle.code.specs.Mend.{Mended, whole, broken}
use Rattle.record.specs.Mend.{payload_in, mended_in}
use Rattle.sealing.specs.Sealing.{agrees}
use Rattle.std.specs.Prelude.{Result}
use Rattle.std.specs.Prelude.{Option}
use Rattle.std.specs.Prelude.{Ok, Err}
use Rattle.std.specs.Prelude.{Some, None}

-- resource and type that a packet names: as its fields were read, and by its bytes 3, 4 and the two high bits of byte 12
abbrev pub packet_name : Packet → Name
packet_name f = record { resource = f.resource; kind = f.kind }

abbrev pub name_in : List ℕ → Name
name_in q = record { resource = resource_in q; kind = kind_in q }

-- the place that was found is in column order
abbrev pub in_columns : List Place → Option ℕ → Bool
in_columns ps (Some i) = eqb (get_or ps i unused).order 1
in_columns ps None = false

-- how a packet is read: without refusal 7 where such a place holds the resource and type that it names, whatever else of it differs
unfoldable pub read_for : Record → List ℕ → Result Packet Refusal
read_for h q = read_by (not (in_columns h.places (place_named h.places (name_in q)))) q

-- update, count, protection, or M under protection 1, differs from the place
unfoldable pub differs : Place → Packet → Bool
differs p f =
    not (eqb f.update p.update) || (not (eqb f.count p.count)
    || (not (eqb f.protection p.protection) || (eqb f.protection 1 && not (eqb f.rows p.rows))))

-- what a packet comes to at a place, whatever the store holds: a refusal, or for the slot of its number a payload of which so many bytes were mended
pub data Judged : Type 0 where
  refuse : Refusal → Judged
  put : ℕ → List ℕ → ℕ → Judged

abbrev pub judge_mended : ℕ → List ℕ → Mended → Judged
judge_mended number q (broken i) = refuse (Repair i)
judge_mended number q (whole b m) = cond (agrees q b) (put number b m) (refuse Crc)

-- the protection by which its rows are mended: in column order a payload is no rows, and is taken as it came
abbrev pub mend_as : Place → Packet → ℕ
mend_as p f = cond (row_wise f.protection p.order) f.protection 0

-- by any mending of packets; ours is `mended_in`
unfoldable pub judge_by : (ℕ → List ℕ → Mended) → Place → Packet → List ℕ → Judged
judge_by mend p f q =
    cond (differs p f) (refuse Other)
    (cond (not (eqb (edition_of f) p.edition)) (refuse Edition)
    (cond (ltb p.slot (length (payload_in q))) (refuse Wide) (judge_mended f.number q (mend (mend_as p f) q))))

abbrev pub judge : Place → Packet → List ℕ → Judged
judge = judge_by mended_in

-- what a payload comes to at what a slot holds; Stored and Repeat carry how many bytes of it were mended
abbrev pub put_into : Content → List ℕ → ℕ → Result Offered Refusal
put_into wrong b m = Err Slot
put_into (holding []) b m = Ok (Stored m)
put_into (holding (x ∷ a)) b m = cond (same (x ∷ a) b) (Ok (Repeat m)) (Err Conflict)

-- what is answered, and what the store then holds
pub record Offering : Type 0 where
  pub answer : Result Offered Refusal
  pub store : List ℕ

-- the store changes with the answer Stored alone
abbrev pub storing : List ℕ → ℕ → List ℕ → Result Offered Refusal → Offering
storing s at b (Ok (Stored m)) = record { answer = Ok (Stored m); store = stored s at b }
storing s at b (Ok (Repeat m)) = record { answer = Ok (Repeat m); store = s }
storing s at b (Err r) = record { answer = Err r; store = s }

abbrev pub offer_judged : Place → List ℕ → Judged → Offering
offer_judged p s (refuse r) = record { answer = Err r; store = s }
offer_judged p s (put k b m) = storing s (slot_at p k) b (put_into (slot_of p s k) b m)

module _ (mend : ℕ → List ℕ → Mended) where
  abbrev pub offer_found : Record → List ℕ → Packet → List ℕ → Option ℕ → Offering
  offer_found h s f q (Some i) = offer_judged (get_or h.places i unused) s (judge_by mend (get_or h.places i unused) f q)
  offer_found h s f q None = record { answer = Err Unknown; store = s }

  abbrev pub offer_read : Record → List ℕ → List ℕ → Result Packet Refusal → Offering
  offer_read h s q (Ok f) = offer_found h s f q (place_named h.places (packet_name f))
  offer_read h s q (Err r) = record { answer = Err r; store = s }

  unfoldable pub offer_by : Record → List ℕ → List ℕ → Offering
  offer_by h s q =
      cond (good (length s) h.places) (offer_read h s q (read_for h q)) (record { answer = Err Refusal.Record; store = s })

abbrev pub offer_of : Record → List ℕ → List ℕ → Offering
offer_of = offer_by mended_in

-- What each function of the C face answers and leaves: the call it stands for, and what that call tells (document 01, sections 5 and 6; document 02, R-7 and R-9) as one number.
-- A record of another length than 160 bytes is refused 9. Assumes nothing.
use Rattle.std.specs.Prelude.{◌≡◌, Bool, cond, List, [], ◌∷◌, ◌++◌, ℕ, ◌+◌, ◌*◌, eqb, ltb, length, drop}
use Rattle.refusals.specs.declared.Refusal.{Refusal}
use Rattle.refusals.specs.declared.Refusal.TheVariants.{Output}
use Rattle.refusals.specs.Told.{Told, accepted_with, refused_as, verdict_told}
use Rattle.encoding.specs.Encode.{encode_of}
use Rattle.single.specs.declared.Corrected.{Corrected}
use Rattle.single.specs.Single.{repair_row_of}
use Rattle.settings.specs.declared.Settings.{Settings}
use Rattle.packet.specs.Packet.{read_by}
use Rattle.packet.specs.Told.{reading_told}
use Rattle.pack.specs.Pack.{pack_of}
use Rattle.pack.specs.Told.{packed_told}
use Rattle.places.specs.declared.Name.{Name}
use Rattle.opening.specs.Open.{open_of, close_of}
use Rattle.record.specs.Offer.{offer_of}
use Rattle.record.specs.Told.{offered_told}
use Rattle.standing.specs.Status.{status_of}
use Rattle.standing.specs.Told.{standing_told}
use Rattle.handing.specs.Hand.{hand_out_of}
use Rattle.holding.specs.Layout.{record_length, record_in, record_bytes}
use Rattle.packet.specs.declared.Packet.{Packet}
use Rattle.std.specs.Prelude.{Result, Ok, Err}

-- values as one: 0 for none, v for one; for two, as of a Status with an empty slot, n + 2^24 · (i + 1)
abbrev pub value_in : List ℕ → ℕ
value_in [] = 0
value_in (v ∷ []) = v
value_in (n ∷ i ∷ more) = n + 16777216 * (i + 1)

-- what is told, as C's answer: number + 256 · value
abbrev pub answer_of : Told → ℕ
answer_of t = t.number + 256 * value_in t.values

-- an answer, and what a lent output then holds
pub record Said : Type 0 where
  pub answer : ℕ
  pub output : List ℕ

-- a call answered r, and left the output, as p says
pub record Says (p : Said) (r : ℕ) (out : List ℕ) : Type 0 where
  pub answers : r ≡ p.answer
  pub leaves : out ≡ p.output

-- bytes or numbers at the start of an output, the rest of it unchanged; 26 where it is too short
unfoldable pub puts : List ℕ → List ℕ → Said
puts b out =
    cond (ltb (length out) (length b)) (record { answer = answer_of (refused_as Output); output = out })
    (record { answer = answer_of (accepted_with []); output = b ++ drop (length b) out })

-- what goes with an accepted call; a refused one leaves the output
unfoldable pub puts_if : Told → List ℕ → List ℕ → Said
puts_if t b out = cond (eqb t.number 0) (puts b out) (record { answer = answer_of t; output = out })

-- an answer, to which a value is given where it is 0, accepted without one
unfoldable pub valued : ℕ → ℕ → ℕ
valued v a = cond (eqb a 0) (answer_of (accepted_with (v ∷ []))) a

abbrev pub with_value : ℕ → Said → Said
with_value v p = record { answer = valued v p.answer; output = p.output }

-- ---- rows: 1, 26 and 1, 13, 26; the value of a repair is the number of bytes mended

unfoldable pub encode_says : List ℕ → List ℕ → Said
encode_says info out = puts_if (verdict_told (encode_of info).verdict) (encode_of info).checks out

abbrev pub repaired_says : Result Corrected Refusal → List ℕ → Said
repaired_says (Ok m) out = with_value m.count (puts m.row out)
repaired_says (Err r) out = record { answer = answer_of (refused_as r); output = out }

unfoldable pub repair_says : List ℕ → List ℕ → Said
repair_says row out = repaired_says (repair_row_of row) out

-- ---- fields: 1 to 8, 7 only where rows are judged, 26; the values that reading tells are put, nine numbers in the table's order and the edition

abbrev pub reading_says : Result Packet Refusal → List ℕ → Said
reading_says x out = puts_if (reading_told x) (reading_told x).values out

unfoldable pub read_says : Bool → List ℕ → List ℕ → Said
read_says rows q out = reading_says (read_by rows q) out

-- ---- packing: the value is the packet's length

unfoldable pub pack_says : List ℕ → Settings → ℕ → List ℕ → Said
pack_says file g n out = record { answer = answer_of (packed_told (pack_of file g n out).answer); output = (pack_of file g n out).output }

-- ---- the record: what is answered, and what record and store then hold

pub record Kept : Type 0 where
  pub answer : ℕ
  pub held : List ℕ
  pub store : List ℕ

-- a call answered r, and left record and store, as p says
pub record Keeps (p : Kept) (r : ℕ) (held store : List ℕ) : Type 0 where
  pub answers : r ≡ p.answer
  pub holds : held ≡ p.held
  pub leaves : store ≡ p.store

abbrev pub bad_record : ℕ
bad_record = answer_of (refused_as Refusal.Record)

unfoldable pub open_says : List ℕ → List ℕ → Settings → ℕ → Kept
open_says h s g count =
    cond (eqb (length h) record_length)
    (record {
      answer = answer_of (verdict_told (open_of (record_in h) s g count).kept.verdict);
      held = record_bytes (open_of (record_in h) s g count).kept.«record»;
      store = (open_of (record_in h) s g count).store;
    })
    (record { answer = bad_record; held = h; store = s })

unfoldable pub close_says : List ℕ → List ℕ → Name → Kept
close_says h s x =
    cond (eqb (length h) record_length)
    (record {
      answer = answer_of (verdict_told (close_of (record_in h) s x).verdict);
      held = record_bytes (close_of (record_in h) s x).«record»;
      store = s;
    })
    (record { answer = bad_record; held = h; store = s })

-- the value is twice the bytes mended, and 1 more for Repeat
unfoldable pub offer_says : List ℕ → List ℕ → List ℕ → Kept
offer_says h s q =
    cond (eqb (length h) record_length)
    (record { answer = answer_of (offered_told (offer_of (record_in h) s q).answer); held = h; store = (offer_of (record_in h) s q).store })
    (record { answer = bad_record; held = h; store = s })

-- the value is filled + 2^24 · (lowest empty + 1), or filled alone where none is empty
unfoldable pub status_says : List ℕ → List ℕ → Name → ℕ
status_says h s x = cond (eqb (length h) record_length) (answer_of (standing_told (status_of (record_in h) s x))) bad_record

unfoldable pub hand_says : List ℕ → List ℕ → Name → ℕ → List ℕ → Said
hand_says h s x n out =
    cond (eqb (length h) record_length)
    (record {
      answer = answer_of (verdict_told (hand_out_of (record_in h) s x n out).answer);
      output = (hand_out_of (record_in h) s x n out).output;
    })
    (record { answer = bad_record; output = out })

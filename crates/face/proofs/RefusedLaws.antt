-- A refusal changes nothing, through the face: by the law of each call, and where a record is put back, because its bytes are then those it was read from.
-- Assumes nothing.
use mathlib.Core.Path.{◌≡◌, refl, ap, ◌∙◌}
use mathlib.Core.Bool.{Bool, true, false, cond, not}
use mathlib.Core.List.{List, ◌++◌}
use Prim.Native.Nat.{ℕ, ◌+◌, ◌*◌}
use native.Mathlib.Omega.{arith}
use borrow.Author.Tests.{eqb-true}
use lib.Dec.{eqb, ltb}
use lib.ListN.{length, drop}
use Rattle.refusals.specs.declared.Refusal.{Refusal}
use Rattle.refusals.specs.declared.Refusal.TheVariants.{Output}
use Rattle.refusals.specs.Told.{Told, refused_as, verdict_told}
use Rattle.encoding.specs.Encode.{encode_of}
use Rattle.single.specs.declared.Corrected.{Corrected}
use Rattle.single.specs.Single.{repair_row_of}
use Rattle.settings.specs.declared.Settings.{Settings}
use Rattle.packet.specs.Packet.{read_by}
use Rattle.packet.specs.Told.{reading_told}
use Rattle.pack.specs.Pack.{pack_of}
use Rattle.pack.specs.Told.{packed_told}
use Rattle.pack.proofs.Plans.{pack-refused}
use Rattle.places.specs.declared.Record.{Record}
use Rattle.places.specs.declared.Name.{Name}
use Rattle.places.specs.Places.{good, place_named}
use Rattle.record.specs.declared.Offered.{Offered}
use Rattle.record.specs.declared.Offered.TheVariants.{Stored, Repeat}
use Rattle.opening.specs.Open.{open_of, closed_at, close_of}
use Rattle.record.specs.Offer.{offer_of}
use Rattle.record.specs.Told.{offered_told}
use Rattle.handing.specs.Hand.{hand_out_of}
use Rattle.opening.proofs.OpenLaws.{refused-record, refused-store, refused_plan}
use Rattle.record.proofs.OfferLaws.{offer-refused}
use Rattle.handing.proofs.HandLaws.{hand_refused}
use Rattle.code.specs.Code.{Bytes}
use Rattle.holding.specs.Layout.{record_length, record_in, record_bytes}
use Rattle.face.specs.Face.{Said, Kept, answer_of, bad_record, puts, puts_if, valued, with_value, encode_says, repaired_says, repair_says, read_says, pack_says, open_says, close_says, offer_says, hand_says}
use Rattle.face.specs.Statements.{number_in, OutputKept, RecordKept, RefusalsChangeNothing}
use Rattle.holding.proofs.LayoutLaws.{bytes-again}
use Rattle.std.specs.Prelude.{Result}
use Rattle.std.specs.Prelude.{Option}
use Rattle.std.specs.Prelude.{Ok, Err}
use Rattle.std.specs.Prelude.{Some, None}

-- ---- what is said of the definitions is said of every result that a contract allows

abbrev pub SaidKept : Said → List ℕ → Type 0
SaidKept p out = (number_in p.answer ≡ 0 → ⊥) → p.output ≡ out

abbrev AllKept : Kept → List ℕ → List ℕ → Type 0
AllKept p h s = (number_in p.answer ≡ 0 → ⊥) → (p.held ≡ h) × (p.store ≡ s)

pub output-kept : (p : Said) (out : List ℕ) → SaidKept p out → OutputKept p out
output-kept p out k r left s d = s.leaves ∙ k (λ e. d (ap number_in s.answers ∙ e))

record-kept : (p : Kept) (h s : List ℕ) → AllKept p h s → RecordKept p h s
record-kept p h s k r held store x d =
    let y = k (λ e. d (ap number_in x.answers ∙ e)) in
    (x.holds ∙ y.0, x.leaves ∙ y.1)

-- ---- rows and fields

put-kept : (b out : List ℕ) → SaidKept (puts b out) out
unfolding puts
put-kept b out = by (ltb (length out) (length b))
  where
    by : (t : Bool) → SaidKept (cond t (record { answer = answer_of (refused_as Output); output = out }) (record { answer = 0; output = b ++ drop (length b) out })) out
    by true d = refl
    by false d = absurd (d refl)

pub put_if_kept : (t : Told) (b out : List ℕ) → SaidKept (puts_if t b out) out
unfolding puts_if
put_if_kept t b out = by (eqb t.number 0)
  where
    by : (x : Bool) → SaidKept (cond x (puts b out) (record { answer = answer_of t; output = out })) out
    by true d = put-kept b out d
    by false d = refl

-- a value refuses nothing
valued-kept : (v : ℕ) (p : Said) (out : List ℕ) → SaidKept p out → SaidKept (with_value v p) out
unfolding valued
valued-kept v p out k = by (eqb p.answer 0)
  where
    by : (t : Bool) → (number_in (cond t (0 + 256 * v) p.answer) ≡ 0 → ⊥) → p.output ≡ out
    by true d = absurd (d (omega arith))
    by false d = k d

pub encode-refused_keeps : (info out : List ℕ) → SaidKept (encode_says info out) out
unfolding encode_says
encode-refused_keeps info out = put_if_kept (verdict_told (encode_of info).verdict) (encode_of info).checks out

pub repair-refused_keeps : (row out : List ℕ) → SaidKept (repair_says row out) out
unfolding repair_says
repair-refused_keeps row out = by (repair_row_of row)
  where
    by : (a : Result Corrected Refusal) → SaidKept (repaired_says a out) out
    by (Ok m) = valued-kept m.count (puts m.row out) out (put-kept m.row out)
    by (Err r) = λ d. refl

pub read-refused_keeps : (rows : Bool) (q out : List ℕ) → SaidKept (read_says rows q out) out
unfolding read_says
read-refused_keeps rows q out = put_if_kept (reading_told (read_by rows q)) (reading_told (read_by rows q)).values out

-- ---- packing

pub pack-refused_keeps : (file : List ℕ) (g : Settings) (n : ℕ) (out : List ℕ) → SaidKept (pack_says file g n out) out
unfolding pack_says
pack-refused_keeps file g n out = by (pack_of file g n out).answer refl
  where
    by : (a : Result ℕ Refusal) → (pack_of file g n out).answer ≡ a → (number_in (answer_of (packed_told a)) ≡ 0 → ⊥) → (pack_of file g n out).output ≡ out
    by (Ok k) e d = absurd (d (omega arith))
    by (Err r) e d = pack-refused file g n out r e

-- ---- the record

-- bytes that are no record stay; else a refused verdict stands beside the record in them, and beside the store as lent
module _ (h s : List ℕ) (v : Result (Unit {0}) Refusal) (k : Record) (left : List ℕ) where
  put_back_kept : Bytes h → ((r : Refusal) → v ≡ Err r → (k ≡ record_in h) × (left ≡ s))
      → AllKept (cond (eqb (length h) record_length) (record { answer = answer_of (verdict_told v); held = record_bytes k; store = left }) (record { answer = bad_record; held = h; store = s })) h s
  put_back_kept bytes same = by (eqb (length h) record_length) refl v refl
    where
      by : (t : Bool) → eqb (length h) record_length ≡ t → (w : Result (Unit {0}) Refusal) → v ≡ w
          → AllKept (cond t (record { answer = answer_of (verdict_told w); held = record_bytes k; store = left }) (record { answer = bad_record; held = h; store = s })) h s
      by false t w e d = (refl, refl)
      by true t (Ok tt) e d = absurd (d refl)
      by true t (Err r) e d = (ap record_bytes (same r e).0 ∙ bytes-again h bytes (eqb-true (length h) record_length t), (same r e).1)

pub open_refused_keeps : (h s : List ℕ) (g : Settings) (count : ℕ) → Bytes h → AllKept (open_says h s g count) h s
unfolding open_says
open_refused_keeps h s g count bytes =
    put_back_kept h s (open_of (record_in h) s g count).kept.verdict (open_of (record_in h) s g count).kept.«record» (open_of (record_in h) s g count).store bytes
    (λ r e.
    let p = refused_plan (record_in h) s g count r e in
    (refused-record (record_in h) s g count r p, refused-store (record_in h) s g count r p))

pub close-refused-record : (h : Record) (s : List ℕ) (x : Name) (r : Refusal) → (close_of h s x).verdict ≡ Err r → (close_of h s x).«record» ≡ h
unfolding close_of
close-refused-record h s x r = by (not (good (length s) h.places)) (place_named h.places x)
  where
    by : (b : Bool) (f : Option ℕ) → (cond b (record { «record» = h; verdict = Err Refusal.Record }) (closed_at h f)).verdict ≡ Err r
        → (cond b (record { «record» = h; verdict = Err Refusal.Record }) (closed_at h f)).«record» ≡ h
    by true f e = refl
    by false None e = refl
    by false (Some i) e = let z : ◌≡◌ {A = ℕ} 0 1 = cc in absurd (omega arith)

pub close-refused_keeps : (h s : List ℕ) (x : Name) → Bytes h → AllKept (close_says h s x) h s
unfolding close_says
close-refused_keeps h s x bytes =
    put_back_kept h s (close_of (record_in h) s x).verdict (close_of (record_in h) s x).«record» s bytes (λ r e. (close-refused-record (record_in h) s x r e, refl))

pub offer-refused_keeps : (h s q : List ℕ) → AllKept (offer_says h s q) h s
unfolding offer_says
offer-refused_keeps h s q = by (eqb (length h) record_length) (offer_of (record_in h) s q).answer refl
  where
    by : (t : Bool) (a : Result Offered Refusal) → (offer_of (record_in h) s q).answer ≡ a
        → AllKept (cond t (record { answer = answer_of (offered_told a); held = h; store = (offer_of (record_in h) s q).store }) (record { answer = bad_record; held = h; store = s })) h s
    by false a e d = (refl, refl)
    by true (Ok (Stored m)) e d = absurd (d (omega arith))
    by true (Ok (Repeat m)) e d = absurd (d (omega arith))
    by true (Err r) e d = (refl, offer-refused (record_in h) s q r e)

pub hand_refused_keeps : (h s : List ℕ) (x : Name) (n : ℕ) (out : List ℕ) → SaidKept (hand_says h s x n out) out
unfolding hand_says
hand_refused_keeps h s x n out = by (eqb (length h) record_length) (hand_out_of (record_in h) s x n out).answer refl
  where
    by : (t : Bool) (v : Result (Unit {0}) Refusal) → (hand_out_of (record_in h) s x n out).answer ≡ v
        → SaidKept (cond t (record { answer = answer_of (verdict_told v); output = (hand_out_of (record_in h) s x n out).output }) (record { answer = bad_record; output = out })) out
    by false v e d = refl
    by true (Ok tt) e d = absurd (d refl)
    by true (Err r) e d = hand_refused out (record_in h) s x n r e

-- ---- all of it

pub refusals_change_nothing : RefusalsChangeNothing
refusals_change_nothing = record {
  encode = λ info out. output-kept (encode_says info out) out (encode-refused_keeps info out);
  repair = λ row out. output-kept (repair_says row out) out (repair-refused_keeps row out);
  read = λ rows q out. output-kept (read_says rows q out) out (read-refused_keeps rows q out);
  pack = λ file g n out. output-kept (pack_says file g n out) out (pack-refused_keeps file g n out);
  «open» = λ h s g count bytes. record-kept (open_says h s g count) h s (open_refused_keeps h s g count bytes);
  offer = λ h s q. record-kept (offer_says h s q) h s (offer-refused_keeps h s q);
  hand_out = λ h s x n out. output-kept (hand_says h s x n out) out (hand_refused_keeps h s x n out);
  close = λ h s x bytes. record-kept (close_says h s x) h s (close-refused_keeps h s x bytes);
}

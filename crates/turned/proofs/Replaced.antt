-- A later, different copy that replaces what a slot holds breaks a promise, whatever is answered: an answer of refusal may change nothing, Stored asks for an empty slot, and
-- Repeat for an unchanged store. The example: 7 is stored, and 8 comes in the same packet of the same file. Assumes nothing.
use mathlib.Core.Path.{◌≡◌, refl, sym, ap, ap₂, ◌∙◌, subst}
use mathlib.Core.Logic.{inr, ⊎_elim}
use mathlib.Core.List.{List, [], ◌∷◌, ◌++◌, flatten}
use Prim.Native.Nat.{ℕ, ◌≤◌, ◌<◌}
use native.Mathlib.Omega.{arith}
use lib.ListN.{length, get_or}
use Rattle.std.proofs.lemmas.Bool.{cases_eq}
use Rattle.slices.proofs.SameLaws.{same_differs}
use Rattle.refusals.specs.declared.Refusal.TheVariants.{Conflict}
use Rattle.refusals.specs.Told.{Told}
use Rattle.layout.specs.Layout.{undone}
use Rattle.code.specs.Code.{Bytes}
use Rattle.packet.specs.declared.Packet.{Packet}
use Rattle.settings.specs.Settings.{settings_fit}
use Rattle.pack.specs.Pack.{payload_of, packet_of}
use Rattle.pack.proofs.Laws.{fields_of, payload_some, payload_most, payload_rows, joined-file}
use Rattle.places.specs.declared.Place.{Place}
use Rattle.places.specs.Places.{settings_name, end_of, place_named, place_of}
use Rattle.places.proofs.Facts.{named_facts}
use Rattle.contents.specs.Contents.{Slot as Content, holding, slot_at, slot_of}
use Rattle.contents.specs.Slots.{stored}
use Rattle.contents.proofs.Slots.{slot-within, slot-stored, fits_made}
use Rattle.contents.proofs.Places.{reading_slots}
use Rattle.record.specs.declared.Offered.{Offered}
use Rattle.record.specs.Offer.{packet_name, read_for, Offering, put, judge, put_into, storing, offer_judged, offer_of}
use Rattle.record.specs.Told.{offered_told}
use Rattle.record.proofs.OfferCases.{offer-placed}
use Rattle.promises.specs.Calls.{State, Outcome, step, telling}
use Rattle.promises.specs.Calls.Call.{offering}
use Rattle.promises.specs.Statements.{bytes_altered, Protected, Copy, place_at, slot_in, Carried, Accepts, OffersBySlots, RefusalsChangeNothing}
use Rattle.turned.specs.Misreadings.{put_at, put_found, put_read, replacing}
use Rattle.promises.proofs.Judged.{copy_name, copy_reads, copy-judged}
use Rattle.promises.proofs.Own.{whole_copy}
use Rattle.promises.proofs.Demand.{read-there, Collecting, copy_go}
use Rattle.promises.proofs.Slots.{held_found}
use Rattle.promises.proofs.Example.{one, byte, protected}
use Rattle.turned.proofs.Turned.{packet, opened, begun}
use Rattle.std.specs.Prelude.{Ok}
use Rattle.std.specs.Prelude.{Some}
use Rattle.refusals.specs.declared.Refusal.{Refusal}
use Rattle.std.specs.Prelude.{Err, Result}

-- ---- two files of one byte

abbrev other : List ℕ
other = 8 ∷ []

protected-other : Protected one other
unfolding settings_fit Bytes
protected-other = record { bytes = (omega arith, tt); some = omega arith; limit = omega arith; fit = refl; protection = refl; count = omega arith }

payloads_differ : payload_of one byte 0 ≡ payload_of one other 0 → ⊥
unfolding flatten
payloads_differ e =
    let files : byte ≡ other =
    sym (joined-file one byte protected.fit refl) ∙ ap (λ (p : List ℕ). undone 0 1 (p ++ []) 1 0) e ∙ joined-file one other protected-other.fit refl in
    let z : ◌≡◌ {A = ℕ} 7 8 = ap (λ (l : List ℕ). get_or l 0 0) files in
    omega arith

-- a slot that holds another payload
conflict : (a b : List ℕ) (m : ℕ) → 0 < length a → (a ≡ b → ⊥) → put_into (holding a) b m ≡ Err Conflict
conflict [] b m l d = absurd (omega arith)
conflict (y ∷ a) b m l d = rw (same_differs (y ∷ a) b d)

-- ---- 7 is there, and 8 comes

abbrev full : State
full = (step (offering packet) opened).state

there : Collecting one byte protected 0 0 full
there = (copy_go one byte protected 0 0 0 (omega arith) packet (whole_copy one byte protected 0 (omega arith)) opened begun).0.collecting

abbrev own : Place
own = place_of one 1 0

-- the slot, read in the record's own place
slot-full : slot_of own full.store 0 ≡ holding (payload_of one byte 0)
slot-full =
    sym (reading_slots own full.store 0 (omega arith))
    ∙ (copy_go one byte protected 0 0 0 (omega arith) packet (whole_copy one byte protected 0 (omega arith)) opened begun).1

abbrev later : List ℕ
later = packet_of one other 0

later-copy : Copy one other 0 later
later-copy = whole_copy one other protected-other 0 (omega arith)

later_reads : read_for full.held later ≡ Ok (fields_of one other 0)
later_reads = read-there one byte protected 0 0 full there later (copy_name one other protected-other 0 (omega arith) later later-copy) ∙ copy_reads one other protected-other 0 (omega arith) later later-copy

later-judged : judge (place_at full 0) (fields_of one other 0) later ≡ put 0 (payload_of one other 0) (bytes_altered later (payload_of one other 0))
later-judged =
    ap (λ (p : Place). judge p (fields_of one other 0) later) there.place ∙ copy-judged one other protected-other 0 (omega arith) later later-copy 0

said_conflict : (offer_of full.held full.store later).answer ≡ Err Conflict
said_conflict =
    ap (λ (o : Offering). o.answer) (offer-placed full.held full.store later there.sound (fields_of one other 0) later_reads 0 there.named
    ∙ ap (offer_judged (place_at full 0) full.store) later-judged
    ∙ ap (λ (p : Place). offer_judged p full.store (put 0 (payload_of one other 0) (bytes_altered later (payload_of one other 0)))) there.place
    ∙ ap (λ (c : Content). storing full.store (slot_at own 0) (payload_of one other 0) (put_into c (payload_of one other 0) (bytes_altered later (payload_of one other 0)))) slot-full
    ∙ ap (storing full.store (slot_at own 0) (payload_of one other 0))
    (conflict (payload_of one byte 0) (payload_of one other 0) _ (payload_some one byte protected.fit 0 (omega arith)) payloads_differ))

number_16 : (step (offering later) full).answer.told.number ≡ 16
unfolding step
number_16 = ap (λ (a : Result Offered Refusal). (offered_told a).number) said_conflict

abbrev replaced : List ℕ
replaced = stored full.store (slot_at own 0) (payload_of one other 0)

put-there : put_read full later (read_for full.held later) ≡ replaced
put-there =
    ap (put_read full later) later_reads
    ∙ ap (put_found full (fields_of one other 0) later) there.named
    ∙ ap (put_at (place_at full 0) full.store) later-judged
    ∙ ap (λ (p : Place). stored full.store (slot_at p 0) (payload_of one other 0)) there.place

abbrev outcome : Told → Outcome
outcome a = record { answer = telling a; state = record { held = full.held; store = replaced } }

replacing_said : (a : Told) → replacing a (offering later) full ≡ outcome a
unfolding replacing
replacing_said a = rw number_16 (ap (λ (s : List ℕ). record { answer = telling a; state = record { held = full.held; store = s } }) put-there)

-- ---- what it breaks

slot_replaced : slot_of own replaced 0 ≡ holding (payload_of one other 0)
slot_replaced =
    let most : length (payload_of one other 0) ≤ 255 = payload_most one other protected-other.fit 0 in
    let ends : end_of own ≤ length full.store =
    subst (λ (p : Place). end_of p ≤ length full.store) there.place (named_facts (length full.store) full.held.places there.sound (settings_name one) 0 there.named).ends-within in
    slot-stored own full.store 0 (payload_of one other 0) (omega (arith, (slot-within own 0 (omega arith)).1))
    (fits_made own (length (payload_of one other 0)) most (inr (payload_rows one other protected-other.fit refl refl 0)))

-- the store is another
changed : replaced ≡ full.store → ⊥
changed e =
    let same : holding (payload_of one byte 0) ≡ holding (payload_of one other 0) = sym slot-full ∙ sym (ap (λ (s : List ℕ). slot_of own s 0) e) ∙ slot_replaced in
    payloads_differ cc

-- the slot that it names was not empty
not_empty : (i n : ℕ) (b : List ℕ) (m : ℕ) → Carried full later i n b m → slot_in full i n ≡ holding [] → ⊥
not_empty i n b m c e =
    let read : Ok c.fields ≡ Ok (fields_of one other 0) = sym c.read ∙ later_reads in
    let fields : c.fields ≡ fields_of one other 0 = cc in
    let at : Some i ≡ Some 0 = sym (held_found full (packet_name c.fields) i c.held) ∙ ap (λ (f : Packet). place_named full.held.places (packet_name f)) fields ∙ there.named in
    let first : i ≡ 0 = cc in
    let zeroth : n ≡ 0 = c.number ∙ ap (λ (f : Packet). f.number) fields in
    let none : holding [] ≡ holding (payload_of one byte 0) =
    sym e ∙ ap₂ (slot_in full) first zeroth ∙ ap (λ (p : Place). slot_of p full.store 0) there.place ∙ slot-full in
    let empty : [] ≡ payload_of one byte 0 = cc in
    omega (arith, ap length empty, payload_some one byte protected.fit 0 (omega arith))

accepted : (y : State) {v : List ℕ} → y.store ≡ replaced → Accepts full later y v → ⊥
accepted y e (Accepts.stored i n b m c empty now others) = not_empty i n b m c empty
accepted y e (Accepts.again i n b m c held same) = changed (sym e ∙ ap (λ (x : State). x.store) same)

pub replacing-turned : (a : Told) → OffersBySlots (replacing a) → RefusalsChangeNothing (replacing a) → ⊥
replacing-turned a offers refusals = ⊎_elim taken turned (cases_eq a.number 0)
  where
    number : (replacing a (offering later) full).answer.told.number ≡ a.number
    number = ap (λ (o : Outcome). o.answer.told.number) (replacing_said a)

    store : (replacing a (offering later) full).state.store ≡ replaced
    store = ap (λ (o : Outcome). o.state.store) (replacing_said a)

    taken : a.number ≡ 0 → ⊥
    taken z = accepted (replacing a (offering later) full).state store (offers full later (number ∙ z))

    turned : (a.number ≡ 0 → ⊥) → ⊥
    turned d = changed (sym store ∙ ap (λ (x : State). x.store) (refusals (offering later) full (λ z. d (omega (arith, number)))).state)

-- A program that takes either edition (document 02, R-9) is turned away: the example is open in edition 2, and its packet comes in edition 1.
-- Assumes nothing.
use mathlib.Core.Path.{◌≡◌, refl, sym, ap, ap₂, ◌∙◌}
use mathlib.Core.Logic.{⊎_elim}
use mathlib.Core.Bool.{true, false}
use mathlib.Core.List.{List, []}
use Prim.Native.Nat.{ℕ}
use native.Mathlib.Omega.{arith}
use Rattle.refusals.specs.declared.Refusal.TheVariants.{Edition}
use Rattle.refusals.specs.Told.{Told, refused_as}
use Rattle.packet.specs.Packet.{fields_in}
use Rattle.packet.specs.Edition.{edition_of}
use Rattle.settings.specs.declared.Settings.{Settings}
use Rattle.settings.specs.Settings.{settings_fit}
use Rattle.pack.specs.Pack.{packet_of}
use Rattle.pack.proofs.Laws.{fields_of, packet_sent, packet_edition}
use Rattle.places.specs.declared.Place.{Place}
use Rattle.places.specs.declared.Record.{Record}
use Rattle.opening.specs.Open.{Opening}
use Rattle.record.specs.Offer.{read_for, Offering, differs, offer_of}
use Rattle.record.specs.Told.{offered_told}
use Rattle.promises.specs.Calls.{Answer, State, step, fresh}
use Rattle.promises.specs.Calls.Call.{opening}
use Rattle.promises.specs.Statements.{Protected, AllFair, place_at, OwnEdition}
use Rattle.promises.proofs.Judged.{not_different, copy_reads, copy_name}
use Rattle.promises.proofs.Demand.{read-there}
use Rattle.promises.proofs.Own.{whole_copy}
use Rattle.promises.proofs.Fresh.{taken}
use Rattle.promises.proofs.Graded.{graded_from_fresh}
use Rattle.turned.specs.Wrong.{all_in, taking_either}
use Rattle.promises.proofs.Example.{one, byte, protected}
use Rattle.turned.proofs.Turned.{room, opened, begun, held}
use Rattle.std.specs.Prelude.{Ok}

abbrev first : Settings
first = record { resource = 5; kind = 1; update = 0; protection = 1; rows = 1; size = 255; edition = 1; order = 0 }

protected-first : Protected first byte
unfolding settings_fit
protected-first = record { bytes = protected.bytes; some = omega arith; limit = omega arith; fit = refl; protection = refl; count = omega arith }

abbrev sent : List ℕ
sent = packet_of first byte 0

shown : edition_of (fields_in sent) ≡ 1
shown =
    ap edition_of (sym (packet_sent first byte 0 protected-first.fit protected-first.count (omega arith) true (λ t o. refl)).fields)
    ∙ packet_edition first byte 0 protected-first.fit protected-first.count (omega arith)

-- the state with its place open in that edition
abbrev opened-first : State
opened-first = (step (opening first 1) (fresh room)).state

-- the record taken for that edition, and the store, are what they are there
same-held : all_in 1 opened.held ≡ opened-first.held
unfolding step
same-held = ap (λ (o : Opening). all_in 1 o.kept.«record») (taken one byte protected room (omega arith) (omega arith)) ∙ sym (ap (λ (o : Opening). o.kept.«record») (taken first byte protected-first room (omega arith) (omega arith)))

same_store : opened.store ≡ opened-first.store
unfolding step
same_store = ap (λ (o : Opening). o.store) (taken one byte protected room (omega arith) (omega arith)) ∙ sym (ap (λ (o : Opening). o.store) (taken first byte protected-first room (omega arith) (omega arith)))

-- where the packet is accepted
accepted : (offered_told (offer_of opened-first.held opened-first.store sent).answer).number ≡ 0
unfolding step
accepted =
    ⊎_elim (ap (λ (a : Answer). a.told.number)) (ap (λ (a : Answer). a.told.number))
    (graded_from_fresh first byte protected-first room (omega arith, omega arith) [] AllFair.ended 0 (omega arith) sent (whole_copy first byte protected-first 0 (omega arith)))

same-file : differs (place_at opened 0) (fields_of first byte 0) ≡ false
unfolding differs
same-file = ap (λ (p : Place). differs p (fields_of first byte 0)) begun.place ∙ not_different first byte 0 0

another : edition_of (fields_of first byte 0) ≡ (place_at opened 0).edition → ⊥
another e =
    omega (arith, packet_edition first byte 0 protected-first.fit protected-first.count (omega arith), ap (λ (p : Place). p.edition) begun.place)

-- at the place that is open it is read
sent_reads : read_for opened.held sent ≡ Ok (fields_of first byte 0)
sent_reads =
    let copy = whole_copy first byte protected-first 0 (omega arith) in
    read-there one byte protected 0 0 opened begun sent (copy_name first byte protected-first 0 (omega arith) sent copy) ∙ copy_reads first byte protected-first 0 (omega arith) sent copy

pub either_turned : OwnEdition taking_either → ⊥
unfolding taking_either
either_turned d =
    let refused : offered_told (offer_of (all_in (edition_of (fields_in sent)) opened.held) opened.store sent).answer ≡ refused_as Edition =
    d opened sent (fields_of first byte 0) 0 sent_reads held same-file another in
    let same : offer_of (all_in (edition_of (fields_in sent)) opened.held) opened.store sent ≡ offer_of opened-first.held opened-first.store sent =
    ap (λ (n : ℕ). offer_of (all_in n opened.held) opened.store sent) shown ∙ ap₂ (λ (h : Record) (s : List ℕ). offer_of h s sent) same-held same_store in
    let z : ◌≡◌ {A = ℕ} 33 0 = ap (λ (t : Told). t.number) (sym refused) ∙ ap (λ (o : Offering). (offered_told o.answer).number) same ∙ accepted in
    omega arith

-- The record is judged, the place that the packet names is found, the fields are read as that place has them; the rest is `offer_at`. A good record's place is sound.
use mathlib.Core.Path.{◌≡◌, sym, ap, ◌∙◌}
use mathlib.Core.Bool.{true, not}
use Prim.Native.Nat.{◌<◌}
use native.Mathlib.Omega.{arith}
use borrow.Author.Rules.{rules}
use lib.Dec.{eqb}
use lib.ListN.{length, get_or}
use Rattle.packet.specs.Packet.{read_by}
use Rattle.places.specs.Places.{unused, names, good, place_named}
use Rattle.places.proofs.Steps.{mapped_length}
use Rattle.places.proofs.Keeping.{good-at}
use Rattle.places.proofs.Holders.{found-names}
use Rattle.record.specs.Offer.{name_in}
use Rattle.record.proofs.OfferCases.{told, come, offer_bad}
use Rattle.record.proofs.OfferReads.{offer-short, offer-nowhere, offer_unread_at, named-at, offer-read-at}
use Rattle.offering.proofs.offer.Goals as goal
use Rattle.std.specs.Prelude.{Ok}
use Rattle.std.specs.Prelude.{Some}

pub returns-then-not-is_good : goal.returns-then-not-is_good
returns-then-not-is_good c = told (offer_bad _ _ _ (sym c.is_good.ensures ∙ c.if-not-is_good.true))

pub returns-then-packet : goal.returns-then-packet
returns-then-packet c =
    let well : good (length c.args.store.now) c.args.held.places ≡ true = sym c.is_good.ensures ∙ c.if-not-is_good.false in
    told (offer-short _ _ _ well (omega arith))

pub returns-in_default : goal.returns-in_default
returns-in_default c =
    let well : good (length c.args.store.now) c.args.held.places ≡ true = sym c.is_good.ensures ∙ c.if-not-is_good.false in
    let found : place_named c.args.held.places (name_in c.args.packet.now) ≡ c.find_place.result = sym (c.find_place.ensures ∙ ap (place_named c.args.held.places) c.name_in.ensures) in
    let s = c.args in
    told (offer-nowhere s.held s.store.now s.packet.now well (found ∙ c.in_default.is) _ c.offer_nowhere.ensures)

pub offset_bounds-held-i : goal.offset_bounds-held-i
offset_bounds-held-i c =
    let found : place_named c.args.held.places (name_in c.args.packet.now) ≡ c.find_place.result = sym (c.find_place.ensures ∙ ap (place_named c.args.held.places) c.name_in.ensures) in
    let named : place_named c.args.held.places (name_in c.args.packet.now) ≡ Some c.in-Some.i = found ∙ c.in-Some.is in
    let eight : length c.args.held.places ≡ 8 = search (rules, mapped_length) in
    let below : c.in-Some.i < 8 = omega (arith, (found-names _ _ _ named).0, eight) in
    omega (arith, below)

pub bounds-held-i : goal.bounds-held-i
bounds-held-i c =
    let found : place_named c.args.held.places (name_in c.args.packet.now) ≡ c.find_place.result = sym (c.find_place.ensures ∙ ap (place_named c.args.held.places) c.name_in.ensures) in
    let named : place_named c.args.held.places (name_in c.args.packet.now) ≡ Some c.in-Some.i = found ∙ c.in-Some.is in
    let eight : length c.args.held.places ≡ 8 = search (rules, mapped_length) in
    let below : c.in-Some.i < 8 = omega (arith, (found-names _ _ _ named).0, eight) in
    below

pub returns-in_default-reading : goal.returns-in_default-reading
returns-in_default-reading c =
    let well : good (length c.args.store.now) c.args.held.places ≡ true = sym c.is_good.ensures ∙ c.if-not-is_good.false in
    let found : place_named c.args.held.places (name_in c.args.packet.now) ≡ c.find_place.result = sym (c.find_place.ensures ∙ ap (place_named c.args.held.places) c.name_in.ensures) in
    let named : place_named c.args.held.places (name_in c.args.packet.now) ≡ Some c.in-Some.i = found ∙ c.in-Some.is in
    let s = c.args in
    told (offer_unread_at s.held s.store.now s.packet.now well _ named _ (sym c.read_at-reading.ensures ∙ c.unwrap_err.ensures))

pub offer_at-requires : goal.offer_at-requires
offer_at-requires c =
    let well : good (length c.args.store.now) c.args.held.places ≡ true = sym c.is_good.ensures ∙ c.if-not-is_good.false in
    let found : place_named c.args.held.places (name_in c.args.packet.now) ≡ c.find_place.result = sym (c.find_place.ensures ∙ ap (place_named c.args.held.places) c.name_in.ensures) in
    let named : place_named c.args.held.places (name_in c.args.packet.now) ≡ Some c.in-Some.i = found ∙ c.in-Some.is in
    let read : read_by (not (eqb (get_or c.args.held.places c.in-Some.i unused).order 1)) c.args.packet.now ≡ Ok c.in-Ok.fields = sym c.read_at-reading.ensures ∙ c.in-Ok.is in
    let s = c.args in
    let g = well in
    let w = named in
    let r = read in
    let n = found-names _ _ _ w in
    let p = get_or s.held.places c.in-Some.i unused in
    (r, good-at _ _ _ g n.0, ap (names p) (named-at s.held s.store.now s.packet.now g _ w _ r) ∙ n.1)

pub returns : goal.returns
returns c =
    let well : good (length c.args.store.now) c.args.held.places ≡ true = sym c.is_good.ensures ∙ c.if-not-is_good.false in
    let found : place_named c.args.held.places (name_in c.args.packet.now) ≡ c.find_place.result = sym (c.find_place.ensures ∙ ap (place_named c.args.held.places) c.name_in.ensures) in
    let named : place_named c.args.held.places (name_in c.args.packet.now) ≡ Some c.in-Some.i = found ∙ c.in-Some.is in
    let read : read_by (not (eqb (get_or c.args.held.places c.in-Some.i unused).order 1)) c.args.packet.now ≡ Ok c.in-Ok.fields = sym c.read_at-reading.ensures ∙ c.in-Ok.is in
    let s = c.args in
    come (offer-read-at s.held s.store.now s.packet.now well _ named _ read) c.offer_at.ensures

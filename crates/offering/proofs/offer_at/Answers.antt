-- The packet is judged in the definition's order: Other, Edition, Wide, and then its payload as its protection asks. Since the packet was read and the place is sound, the slot of
-- its number lies in the store.
use mathlib.Core.Path.{◌≡◌, sym, ap, ◌∙◌}
use mathlib.Core.Bool.{true, false, not}
use Prim.Native.Nat.{◌+◌, ◌≤◌}
use native.Mathlib.Omega.{arith}
use lib.Dec.{eqb}
use lib.ListN.{length}
use Rattle.packet.specs.Edition.{edition_of}
use Rattle.packet.proofs.Laws.{SentFacts, read_sent}
use Rattle.settings.specs.Settings.{row_wise}
use Rattle.places.proofs.Named.{names_in_use}
use Rattle.places.proofs.Facts.{PlaceFacts, place_facts}
use Rattle.contents.specs.Contents.{slot_at}
use Rattle.record.specs.Mend.{payload_in}
use Rattle.record.specs.Offer.{packet_name, differs, offer_judged}
use Rattle.sealing.proofs.Laws.{agrees-long}
use Rattle.record.proofs.OfferCases.{told, come, put_at_lem, payload_cut, rows_cut, judge-other, judge-edition, judge_wide, offer_as_it_came, offer_repaired}
use Rattle.record.proofs.OfferFacts.{no_stream, slot-room, mends_nothing, mends_rows, rows-judged, rows-protected}
use Rattle.offering.proofs.offer_at.Goals as goal

pub returns-then-differs : goal.returns-then-differs
returns-then-differs c = told (ap (offer_judged _ _) (judge-other _ _ _ (sym c.differs.ensures ∙ c.if-differs.true)))

pub returns-then-edition_of-p : goal.returns-then-edition_of-p
returns-then-edition_of-p c =
    let alike : differs c.args.p c.args.fields ≡ false = sym c.differs.ensures ∙ c.if-differs.false in
    told (ap (offer_judged _ _) (judge-edition _ _ _ alike (λ z. c.if-edition_of-p.true (c.edition_of.ensures ∙ z))))

pub overflow_sub-end : goal.overflow_sub-end
overflow_sub-end c =
    let sent : SentFacts (not (eqb c.args.p.order 1)) c.args.packet.now c.args.fields = read_sent _ _ _ (λ i. (c.shared_slice_known-1.given i).fits) c.requires.0 in
    let s = sent in omega arith

pub slice_bounds-payload-count : goal.slice_bounds-payload-count
slice_bounds-payload-count c =
    let sent : SentFacts (not (eqb c.args.p.order 1)) c.args.packet.now c.args.fields = read_sent _ _ _ (λ i. (c.shared_slice_known-1.given i).fits) c.requires.0 in
    let s = sent in omega arith

pub slice_bounds-payload-start : goal.slice_bounds-payload-start
slice_bounds-payload-start c =
    let sent : SentFacts (not (eqb c.args.p.order 1)) c.args.packet.now c.args.fields = read_sent _ _ _ (λ i. (c.shared_slice_known-1.given i).fits) c.requires.0 in
    let s = sent in omega arith

pub slice_bounds-payload-end : goal.slice_bounds-payload-end
slice_bounds-payload-end c = omega arith

pub overflow_cast-p : goal.overflow_cast-p
overflow_cast-p c = omega arith

pub returns-then-p-payload : goal.returns-then-p-payload
returns-then-p-payload c =
    let alike : differs c.args.p c.args.fields ≡ false = sym c.differs.ensures ∙ c.if-differs.false in
    let own : edition_of c.args.fields ≡ c.args.p.edition = sym c.edition_of.ensures ∙ c.if-edition_of-p.false in
    let q = c.args.packet.now in
    told (ap (offer_judged _ _) (judge_wide _ _ q alike own (omega (arith, ap length (payload_cut q)))))

pub shape_of-store-then-not-row_wise : goal.shape_of-store-then-not-row_wise
shape_of-store-then-not-row_wise c = omega arith

pub returns-then-not-row_wise : goal.returns-then-not-row_wise
returns-then-not-row_wise c =
    let sent : SentFacts (not (eqb c.args.p.order 1)) c.args.packet.now c.args.fields = read_sent _ _ _ (λ i. (c.shared_slice_known-1.given i).fits) c.requires.0 in
    let headed : 14 ≤ length c.args.packet.now = let s = sent in omega arith in
    let alike : differs c.args.p c.args.fields ≡ false = sym c.differs.ensures ∙ c.if-differs.false in
    let own : edition_of c.args.fields ≡ c.args.p.edition = sym c.edition_of.ensures ∙ c.if-edition_of-p.false in
    let place : PlaceFacts (length c.args.store.now) c.args.p = place_facts _ _ c.requires.1 (names_in_use c.args.p (packet_name c.args.fields) c.requires.2) in
    let room : slot_at c.args.p c.args.fields.number + (c.args.p.slot + 2) ≤ length c.args.store.now = slot-room _ _ _ place (sent.below (no_stream _ c.args.p c.args.fields place c.requires.2)) alike in
    let narrow : length (payload_in c.args.packet.now) ≤ c.args.p.slot = omega (arith, ap length (payload_cut c.args.packet.now)) in
    let p = c.args.p in
    let f = c.args.fields in
    let q = c.args.packet.now in
    come (offer_as_it_came p f q alike own _ narrow (mends_nothing p f (sym c.row_wise.ensures ∙ c.if-not-row_wise.true)) _ (c.agrees.ensures ∙ agrees-long q _ headed)) (come (sym (put_at_lem p _ f.number _ _ _ room (omega (arith, narrow, ap length (payload_cut q))))) c.put_in.ensures)

pub offer_rows-requires : goal.offer_rows-requires
offer_rows-requires c =
    let sent : SentFacts (not (eqb c.args.p.order 1)) c.args.packet.now c.args.fields = read_sent _ _ _ (λ i. (c.shared_slice_known-1.given i).fits) c.requires.0 in
    let place : PlaceFacts (length c.args.store.now) c.args.p = place_facts _ _ c.requires.1 (names_in_use c.args.p (packet_name c.args.fields) c.requires.2) in
    let alike : differs c.args.p c.args.fields ≡ false = sym c.differs.ensures ∙ c.if-differs.false in
    let room : slot_at c.args.p c.args.fields.number + (c.args.p.slot + 2) ≤ length c.args.store.now = slot-room _ _ _ place (sent.below (no_stream _ c.args.p c.args.fields place c.requires.2)) alike in
    let a = c.args in
    let s = sent in
    let w : row_wise a.fields.protection a.p.order ≡ true = sym c.row_wise.ensures ∙ c.if-not-row_wise.false in
    let r = rows_cut a.packet.now (omega arith) (omega arith) (s.multiple (rows-judged a.p a.fields w) (rows-protected a.p a.fields s.protection w)) in
    (room, omega arith, omega arith, r.0, r.1)

pub shape_of-store : goal.shape_of-store
shape_of-store c = omega arith

pub returns : goal.returns
returns c =
    let alike : differs c.args.p c.args.fields ≡ false = sym c.differs.ensures ∙ c.if-differs.false in
    let own : edition_of c.args.fields ≡ c.args.p.edition = sym c.edition_of.ensures ∙ c.if-edition_of-p.false in
    let narrow : length (payload_in c.args.packet.now) ≤ c.args.p.slot = omega (arith, ap length (payload_cut c.args.packet.now)) in
    let p = c.args.p in
    let f = c.args.fields in
    let q = c.args.packet.now in
    come (offer_repaired p f q alike own _ narrow (mends_rows p f (sym c.row_wise.ensures ∙ c.if-not-row_wise.false))) c.offer_rows.ensures

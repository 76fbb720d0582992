-- Status and offers by the slots: the status of an open place is what its slots say; an offer that is accepted found its slot empty, and the slot then holds the payload, or
-- found the payload there; no other slot changes. Assumes nothing.
use mathlib.Core.Path.{◌≡◌, refl, sym, ap, ◌∙◌}
use mathlib.Core.Logic.{⊎_elim}
use mathlib.Core.Bool.{Bool, true, false, cond, not}
use mathlib.Core.List.{List, [], ◌∷◌}
use Prim.Native.Nat.{ℕ, ◌+◌, ◌%◌, ◌<◌, ◌≤◌}
use native.Mathlib.Omega.{arith}
use lib.Dec.{eqb}
use lib.ListN.{length, get_or, get_or-eq_default}
use Rattle.std.proofs.lemmas.Bool.{false_from_ne_true, cases_lt, cases_eq}
use Rattle.refusals.specs.declared.Refusal.{Refusal}
use Rattle.refusals.specs.declared.Refusal.TheVariants.{Slot, Conflict}
use Rattle.refusals.specs.Told.{refused_as}
use Rattle.refusals.proofs.Told.{number_not_0}
use Rattle.slices.specs.Slices.{same}
use Rattle.slices.proofs.SameLaws.{same_equal}
use Rattle.packet.specs.declared.Packet.{Packet}
use Rattle.places.specs.declared.Place.{Place}
use Rattle.places.specs.declared.Name.{Name}
use Rattle.places.specs.Places.{unused, in_use, names as holds, good, end_of, in_rows, place_named}
use Rattle.ground.proofs.Truth.{differ}
use Rattle.places.proofs.Searches.{first-only}
use Rattle.places.proofs.Named.{names_in_use}
use Rattle.places.proofs.Facts.{named_facts, good-apart, one_holder}
use Rattle.places.proofs.Holders.{found-names}
use Rattle.contents.specs.Contents.{Slot as Content, wrong, holding, slot_at, slot_of, contents, any_wrong, filled, lowest_empty}
use Rattle.contents.specs.Slots.{stored}
use Rattle.contents.proofs.Bytes.{length-stored, stored_off}
use Rattle.contents.proofs.Slots.{slot-within, slots_off, slot-stored, slot-agree, fits-room}
use Rattle.contents.proofs.Places.{reading_slots, storing-leaves, apart-meets}
use Rattle.record.specs.declared.Offered.{Offered}
use Rattle.record.specs.declared.Offered.TheVariants.{Repeat}
use Rattle.code.specs.Mend.{whole}
use Rattle.record.specs.Mend.{payload_in, mended_in}
use Rattle.settings.specs.Settings.{row_wise}
use Rattle.record.specs.Offer.{packet_name, read_for, differs, mend_as, Judged, refuse, put, judge, put_into, Offering, storing, offer_judged, offer_of}
use Rattle.record.specs.Told.{offered_told}
use Rattle.record.proofs.OfferCases.{offer-placed, payload_length_lem, mended-plain, mended-rows, puts-known}
use Rattle.record.proofs.OfferFacts.{Read, read-placed, same-file, mends_nothing, mends_rows, rows-judged, rows-protected}
use Rattle.record.proofs.OfferLaws.{Placed, Sound, Case, refused, placed, offer_case, offer-sound}
use Rattle.standing.specs.Status.{standing_in, status_of}
use Rattle.standing.specs.Told.{standing_told}
use Rattle.standing.proofs.StatusLaws.{status_found_lem}
use Rattle.promises.specs.Calls.{State, offering, step, telling}
use Rattle.promises.specs.Statements.{RowsNear, bytes_altered, place_at, slot_in, Held, lowest_values, slots_told, StatusBySlots, Carried, OthersStay, Accepts, OffersBySlots}
use Rattle.promises.proofs.EachRow.{rows-near}
use Rattle.std.specs.Prelude.{Option}
use Rattle.std.specs.Prelude.{Ok}
use Rattle.std.specs.Prelude.{Some, None}
use Rattle.std.specs.Prelude.{Err}

-- ---- the place that holds a resource and type

-- a place in use is one of the record's
pub used_within : (x : State) (i : ℕ) → in_use (place_at x i) ≡ true → i < length x.held.places
used_within x i u = ⊎_elim (λ l. l) (λ h. absurd (beyond h)) (cases_lt i (length x.held.places))
  where
    beyond : length x.held.places ≤ i → ⊥
    beyond h = differ (sym u ∙ ap in_use (get_or-eq_default x.held.places unused h))

module _ (x : State) (r : Name) (i : ℕ) where
  pub held_found : Held x r i → place_named x.held.places r ≡ Some i
  held_found h =
      let within : i < length x.held.places = used_within x i (names_in_use (place_at x i) r h.named) in
      first-only (λ p. holds p r) x.held.places i within h.named
      (λ k l d. false_from_ne_true (holds (place_at x k) r) (λ e. d (one_holder (length x.store) x.held.places h.sound k i l within r e h.named)))

  pub found-held : good (length x.store) x.held.places ≡ true → place_named x.held.places r ≡ Some i → Held x r i
  found-held g e = record { sound = g; named = (found-names x.held.places r i e).1 }

-- a packet that its place judges to be refused is refused so
pub refused-there : (x : State) (q : List ℕ) (f : Packet) (i : ℕ) (r : Refusal) → read_for x.held q ≡ Ok f → Held x (packet_name f) i
    → judge (place_at x i) f q ≡ refuse r → (step (offering q) x).answer.told ≡ refused_as r
unfolding step
refused-there x q f i r read h j =
    ap (λ (o : Offering). offered_told o.answer) (offer-placed x.held x.store q h.sound f read i (held_found x (packet_name f) i h)
    ∙ ap (offer_judged (place_at x i) x.store) j)

-- ---- status

standing_slots : (c : List Content) → standing_told (standing_in c) ≡ slots_told c
unfolding standing_in
standing_slots c = by (any_wrong c) (lowest_empty c 0)
  where
    by : (b : Bool) (f : Option ℕ) → standing_told (cond b (Err Slot) (Ok (record { filled = filled c; lowest = f }))) ≡ cond b (refused_as Slot) (record { number = 0; values = filled c ∷ lowest_values f })
    by true f = refl
    by false (Some k) = refl
    by false None = refl

pub status_by_slots : StatusBySlots step
unfolding step
status_by_slots x r i h =
    let e : status_of x.held x.store r ≡ standing_in (contents (place_at x i) x.store) = sym (status_found_lem x.held x.store r h.sound i (held_found x r i h)) in
    λ j. record { answer = telling ((ap standing_told e ∙ standing_slots (contents (place_at x i) x.store)) j); state = x }

-- ---- a packet that puts a payload

module _ (p : Place) (q b : List ℕ) (m : ℕ) (f : Packet) (s : differs p f ≡ false) (e : mended_in (mend_as p f) q ≡ whole b m) where
  as_packet : {t : Bool} → in_rows p ≡ t → row_wise f.protection p.order ≡ t
  as_packet w = ap (λ (x : ℕ). row_wise x p.order) (same-file p f s).protection ∙ w

  -- rows that were repaired are near, and what was mended is counted
  mended-near : Read (not (eqb p.order 1)) q f → in_rows p ≡ true → RowsNear q b × (m ≡ bytes_altered q b)
  mended-near r w =
      rows-near q b m (ap (λ (n : ℕ). n % 255) (payload_length_lem q (omega (arith, r.least))) ∙ r.multiple (rows-judged p f (as_packet w)) (rows-protected p f r.protection (as_packet w)))
      (sym (mended-rows (mend_as p f) q (mends_rows p f (as_packet w))) ∙ e)

  -- else the payload is as it came
  mended-nothing : in_rows p ≡ false → (b ≡ payload_in q) × (m ≡ 0)
  mended-nothing w = let o : whole b m ≡ whole (payload_in q) 0 = sym e ∙ mended-plain (mend_as p f) q (mends_nothing p f (as_packet w)) in (cc, cc)

-- ---- what is stored in a slot, and every other

module _ (x : State) (i n : ℕ) (b : List ℕ) (u : in_use (place_at x i) ≡ true) (g : good (length x.store) x.held.places ≡ true)
    (below : n < (place_at x i).count) (room : length b ≤ (place_at x i).slot) where
  abbrev after : List ℕ
  after = stored x.store (slot_at (place_at x i) n) b

  own-slots : (k : ℕ) → (k ≡ n → ⊥) → slot_of (place_at x i) after k ≡ slot_of (place_at x i) x.store k
  own-slots k d =
      slot-agree (place_at x i) after x.store k
      (λ a l h. stored_off x.store (slot_at (place_at x i) n) b a (slots_off (place_at x i) k n a (length b + 2) d l h (omega arith)))

  other-slots : (j k : ℕ) → (i ≡ j → ⊥) → in_use (place_at x j) ≡ true → k < (place_at x j).count → slot_of (place_at x j) after k ≡ slot_of (place_at x j) x.store k
  other-slots j k d v l =
      let apart = good-apart (length x.store) x.held.places g i j (used_within x i u) (used_within x j v) d u v in
      let same : contents (place_at x j) after ≡ contents (place_at x j) x.store =
      storing-leaves (place_at x i) (place_at x j) x.store n b (apart-meets (place_at x i) (place_at x j) apart) below room in
      sym (reading_slots (place_at x j) after k l) ∙ ap (λ (c : List Content). get_or c k wrong) same ∙ reading_slots (place_at x j) x.store k l

  others_stay : OthersStay x (record { held = x.held; store = after }) i n
  others_stay = record {
    same-held = refl;
    sized = length-stored x.store (slot_at (place_at x i) n) b;
    slots = λ j k v l d. ⊎_elim (own j k d) (λ o. other-slots j k (λ z. o (sym z)) v l) (cases_eq j i);
  }
    where
      own : (j k : ℕ) → ((j ≡ i) × (k ≡ n) → ⊥) → j ≡ i → slot_of (place_at x j) after k ≡ slot_of (place_at x j) x.store k
      own j k d e = rw e (own-slots k (λ z. d (e, z)))

-- ---- offers

module _ (x : State) (q : List ℕ) where
  abbrev Says : Offering → Type 0
  Says o = (offered_told o.answer).number ≡ 0 → Accepts x q (record { held = x.held; store = o.store }) (offered_told o.answer).values

  module _ (g : good (length x.store) x.held.places ≡ true) (f : Packet) (read : read_for x.held q ≡ Ok f) (i : ℕ) (found : place_named x.held.places (packet_name f) ≡ Some i) where
    carried : (n : ℕ) (b : List ℕ) (m : ℕ) → judge (place_at x i) f q ≡ put n b m → Placed (place_at x i) f n b → Carried x q i n b m
    carried n b m e w =
        let k = puts-known n b m (place_at x i) f q e in
        record {
          fields = f;
          read = read;
          held = found-held x (packet_name f) i g found;
          serves = k.serves;
          edition = k.edition;
          number = w.number;
          below = w.below;
          plain = λ z. (mended-nothing (place_at x i) q b m f k.serves k.mended z).0;
          rows = λ w. (mended-near (place_at x i) q b m f k.serves k.mended (read-placed x.held q f read i found) w).0;
          crc = k.crc;
          none-mended = λ z. (mended-nothing (place_at x i) q b m f k.serves k.mended z).1;
          mended = λ w. (mended-near (place_at x i) q b m f k.serves k.mended (read-placed x.held q f read i found) w).1;
        }

    slot_said : (n : ℕ) (b : List ℕ) (m : ℕ) → judge (place_at x i) f q ≡ put n b m → Placed (place_at x i) f n b → (c : Content) → slot_in x i n ≡ c
        → Says (storing x.store (slot_at (place_at x i) n) b (put_into c b m))
    slot_said n b m e w wrong z o = absurd (omega arith)
    slot_said n b m e w (holding []) z o =
        let used = names_in_use (place_at x i) (packet_name f) (found-names x.held.places (packet_name f) i found).1 in
        let room : length b ≤ (place_at x i).slot = fits-room (place_at x i) (length b) w.fits in
        let ends : end_of (place_at x i) ≤ length x.store = (named_facts (length x.store) x.held.places g (packet_name f) i found).ends-within in
        Accepts.stored i n b m (carried n b m e w) z
        (slot-stored (place_at x i) x.store n b (omega (arith, (slot-within (place_at x i) n w.below).1)) w.fits)
        (others_stay x i n b used g w.below room)
    slot_said n b m e w (holding (y ∷ d)) z o = compared (same (y ∷ d) b) refl o
      where
        compared : (t : Bool) → same (y ∷ d) b ≡ t → Says (storing x.store (slot_at (place_at x i) n) b (cond t (Ok (Repeat m)) (Err Conflict)))
        compared true h o = Accepts.again i n b m (carried n b m e w) (z ∙ ap holding (same_equal (y ∷ d) b h)) refl
        compared false h o = absurd (omega arith)

    judged_said : (j : Judged) → judge (place_at x i) f q ≡ j → Sound (place_at x i) f j → Says (offer_judged (place_at x i) x.store j)
    judged_said (refuse r) e w o = absurd (number_not_0 r o)
    judged_said (put n b m) e w o = slot_said n b m e w (slot_in x i n) refl o

  case_said : (o : Offering) → Case x.held x.store q o → Says o
  case_said o (refused r) e = absurd (number_not_0 r e)
  case_said o (placed g f read i found) e =
      judged_said g f read i found (judge (place_at x i) f q) refl (offer-sound x.held x.store q g f read i found) e

pub offers_by_slots : OffersBySlots step
unfolding step
offers_by_slots x q = case_said x q (offer_of x.held x.store q) (offer_case x.held x.store q)

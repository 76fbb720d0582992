-- What an offer does, in terms of what places hold: document 01, section 5. It changes at most the addressed slot of the place that it names, and that from empty
-- to the payload; and it depends on nothing else of the store but its length. The packet may be any list. Assumes nothing.
use mathlib.Core.Path.{◌≡◌, refl, sym, ap, subst, ◌∙◌}
use mathlib.Core.Logic.{◌⊎◌, inl, inr, ⊎_map}
use mathlib.Core.Bool.{Bool, true, false, not}
use mathlib.Core.List.{List, [], ◌∷◌}
use Prim.Native.Nat.{ℕ, ◌-◌, ◌/◌, ◌%◌, ◌<◌, ◌≤◌}
use native.Mathlib.Omega.{arith}
use lib.Dec.{eqb}
use lib.ListN.{length, get_or, set}
use lib.Seq.{get_or-set_same, get_or-set_other}
use Rattle.slices.specs.Slices.{same}
use Rattle.slices.proofs.SameLaws.{same_self}
use Rattle.refusals.specs.declared.Refusal.{Refusal}
use Rattle.refusals.specs.declared.Refusal.TheVariants.{Unknown}
use Rattle.packet.specs.declared.Packet.{Packet}
use Rattle.packet.specs.Edition.{edition_of}
use Rattle.places.specs.declared.Place.{Place}
use Rattle.places.specs.declared.Record.{Record}
use Rattle.places.specs.declared.Name.{Name}
use Rattle.places.specs.Places.{place_name, same_name, names, unused, end_of, meets, good, place_named}
use Rattle.places.proofs.Named.{name-same, name-other, names-name, names_in_use}
use Rattle.places.proofs.Facts.{PlaceFacts, named_facts, good-apart}
use Rattle.places.proofs.Holders.{found-names}
use Rattle.contents.specs.Contents.{Slot as Content, wrong, holding, slot_at, length_fits, slot_of, contents}
use Rattle.contents.proofs.Bytes.{length-stored}
use Rattle.contents.proofs.Slots.{fits_made, fits-room}
use Rattle.contents.proofs.Places.{reading_slots, storing-sets, storing-leaves, apart-meets}
use Rattle.record.specs.declared.Offered.{Offered}
use Rattle.record.specs.declared.Offered.TheVariants.{Stored, Repeat}
use Rattle.code.specs.Mend.{altered_in}
use Rattle.record.specs.Mend.{payload_in}
use Rattle.settings.specs.Settings.{row_wise}
use Rattle.record.specs.Offer.{packet_name, name_in, read_for, mend_as, Judged, refuse, put, judge, put_into, Offering, storing, offer_judged, offer_of}
use Rattle.record.proofs.OfferCases.{said, payload_length_lem, judge-puts, Puts, puts-known, offer_bad, offer_unread, offer_unknown, offer-placed}
use Rattle.record.proofs.OfferFacts.{Read, read_name, read-placed, read-least, SameFile, same-file, same-serves, no_stream, slot-below, mends_nothing, rows-protected, rows-judged}
use Rattle.record.proofs.MendLaws.{mended-length, Altered, Intact, agrees-copy, mended-copy}
use Rattle.std.specs.Prelude.{Result}
use Rattle.std.specs.Prelude.{Option}
use Rattle.std.specs.Prelude.{Ok, Err}
use Rattle.std.specs.Prelude.{Some, None}

-- ---- what is put fits the place

pub record Placed (p : Place) (f : Packet) (k : ℕ) (b : List ℕ) : Type 0 where
  pub number : k ≡ f.number
  pub below : k < p.count
  pub fits : length_fits p (length b) ≡ true

abbrev pub Sound : Place → Packet → Judged → Type 0
Sound p f (refuse r) = Unit {0}
Sound p f (put k b m) = Placed p f k b

module _ (n : ℕ) (p : Place) (f : Packet) (q : List ℕ) (w : PlaceFacts n p) (named : names p (packet_name f) ≡ true) (r : Read (not (eqb p.order 1)) q f) where
  -- where rows are mended the payload is whole rows; else any length is taken
  rows-read : (row_wise f.protection p.order ≡ false) ⊎ ((length q - 18) % 255 ≡ 0)
  rows-read = by (row_wise f.protection p.order) refl
    where
      by : (t : Bool) → row_wise f.protection p.order ≡ t → (row_wise f.protection p.order ≡ false) ⊎ ((length q - 18) % 255 ≡ 0)
      by false t = inl t
      by true t = inr (r.multiple (rows-judged p f t) (rows-protected p f r.protection t))

  put-placed : (k : ℕ) (b : List ℕ) (m : ℕ) → Puts p f q k b m → Placed p f k b
  put-placed k b m x =
      let h : 18 ≤ length q = omega (arith, r.least) in
      let e : length b ≡ length q - 18 = mended-length (mend_as p f) q b m h (⊎_map (mends_nothing p f) (λ z. z) rows-read) x.mended in
      let s = same-file p f x.serves in
      record {
        number = x.number;
        below = omega (arith, x.number, slot-below p f (r.below (no_stream n p f w named)) x.serves);
        fits = fits_made p (length b) (omega (arith, x.narrow, payload_length_lem q h))
            (⊎_map (λ z. ap (λ (y : ℕ). row_wise y p.order) (sym s.protection) ∙ z) (λ z. ap (λ (y : ℕ). y % 255) e ∙ z) rows-read);
      }

  pub judge-sound : Sound p f (judge p f q)
  judge-sound = by (judge p f q) refl
    where
      by : (j : Judged) → judge p f q ≡ j → Sound p f j
      by (refuse x) e = tt
      by (put k b m) e = put-placed k b m (puts-known k b m p f q e)

-- what an altered copy of a packet of the place's file and edition puts is that packet's own payload, mended where the copy was altered
pub judge-copy : (o : Place) (f : Packet) (q p : List ℕ) → Altered q p → Intact p → SameFile o f → edition_of f ≡ o.edition → (mend_as o f ≡ 0 → ⊥) → length (payload_in p) ≤ o.slot
    → judge o f q ≡ put f.number (payload_in p) (altered_in (length (payload_in q) / 255) (payload_in q) (payload_in p))
judge-copy o f q p a w s e z l =
    let n : length q ≡ length p = a.sized in
    let g : 19 ≤ length p = w.least in
    judge-puts o f q (same-serves o f s) e (payload_in p) _ (omega (arith, payload_length_lem q (omega arith), payload_length_lem p (omega arith)))
    (mended-copy q p a w (mend_as o f) z) (agrees-copy q p a w)

-- ---- at one place: the answer and what the place holds afterwards, by what it held

abbrev pub answered : Judged → List Content → Result Offered Refusal
answered (refuse r) c = Err r
answered (put k b m) c = put_into (get_or c k wrong) b m

abbrev pub kept : Result Offered Refusal → List Content → ℕ → List ℕ → List Content
kept (Ok (Stored m)) c k b = set c k (holding b)
kept (Ok (Repeat m)) c k b = c
kept (Err r) c k b = c

abbrev pub held_after : Judged → List Content → List Content
held_after (refuse r) c = c
held_after (put k b m) c = kept (put_into (get_or c k wrong) b m) c k b

module _ (s : List ℕ) (at : ℕ) (b : List ℕ) where
  storing-answer : (a : Result Offered Refusal) → (storing s at b a).answer ≡ a
  storing-answer (Ok (Stored m)) = refl
  storing-answer (Ok (Repeat m)) = refl
  storing-answer (Err r) = refl

  storing-length : (a : Result Offered Refusal) → length (storing s at b a).store ≡ length s
  storing-length (Ok (Stored m)) = length-stored s at b
  storing-length (Ok (Repeat m)) = refl
  storing-length (Err r) = refl

  storing-same : (a : Result Offered Refusal) → ((m : ℕ) → (storing s at b a).answer ≡ Ok (Stored m) → ⊥) → (storing s at b a).store ≡ s
  storing-same (Ok (Stored m)) h = absurd (h m refl)
  storing-same (Ok (Repeat m)) h = refl
  storing-same (Err r) h = refl

module _ (p : Place) (f : Packet) (s : List ℕ) where
  answer_at : (j : Judged) → Sound p f j → (offer_judged p s j).answer ≡ answered j (contents p s)
  answer_at (refuse r) w = refl
  answer_at (put k b m) w =
      storing-answer s (slot_at p k) b (put_into (slot_of p s k) b m)
      ∙ ap (λ (x : Content). put_into x b m) (sym (reading_slots p s k w.below))

  holds_at : (j : Judged) → Sound p f j → end_of p ≤ length s → contents p (offer_judged p s j).store ≡ held_after j (contents p s)
  holds_at (refuse r) w h = refl
  holds_at (put k b m) w h =
      by (put_into (slot_of p s k) b m) ∙ ap (λ (x : Content). kept (put_into x b m) (contents p s) k b) (sym (reading_slots p s k w.below))
    where
      by : (a : Result Offered Refusal) → contents p (storing s (slot_at p k) b a).store ≡ kept a (contents p s) k b
      by (Ok (Stored n)) = storing-sets p s k b h w.below w.fits
      by (Ok (Repeat x)) = refl
      by (Err r) = refl

  leaves_at : (j : Judged) → Sound p f j → (o : Place) → meets p o ≡ false → contents o (offer_judged p s j).store ≡ contents o s
  leaves_at (refuse r) w o m = refl
  leaves_at (put k b n) w o m = by (put_into (slot_of p s k) b n)
    where
      by : (a : Result Offered Refusal) → contents o (storing s (slot_at p k) b a).store ≡ contents o s
      by (Ok (Stored x)) = storing-leaves p o s k b m w.below (fits-room p (length b) w.fits)
      by (Ok (Repeat x)) = refl
      by (Err r) = refl

  length_at : (j : Judged) → length (offer_judged p s j).store ≡ length s
  length_at (refuse r) = refl
  length_at (put k b m) = storing-length s (slot_at p k) b (put_into (slot_of p s k) b m)

  same_at : (j : Judged) → ((m : ℕ) → (offer_judged p s j).answer ≡ Ok (Stored m) → ⊥) → (offer_judged p s j).store ≡ s
  same_at (refuse r) h = refl
  same_at (put k b m) h = storing-same s (slot_at p k) b (put_into (slot_of p s k) b m) h

  -- at most the slot of the packet's number changes
  pub slots_kept : (j : Judged) → Sound p f j → (c : List Content) (k : ℕ) → (k ≡ f.number → ⊥) → get_or (held_after j c) k wrong ≡ get_or c k wrong
  slots_kept (refuse r) w c k d = refl
  slots_kept (put i b m) w c k d = by (put_into (get_or c i wrong) b m)
    where
      by : (a : Result Offered Refusal) → get_or (kept a c i b) k wrong ≡ get_or c k wrong
      by (Ok (Stored x)) = get_or-set_other c i k (holding b) wrong (λ (z : k ≡ i). d (z ∙ w.number))
      by (Ok (Repeat x)) = refl
      by (Err r) = refl

-- a slot that is empty, or holds the payload already, holds it afterwards
pub held_after_lem : (c : List Content) (k : ℕ) (b : List ℕ) (m : ℕ) → k < length c → (get_or c k wrong ≡ holding []) ⊎ (get_or c k wrong ≡ holding b)
    → get_or (held_after (put k b m) c) k wrong ≡ holding b
held_after_lem c k b m h (inl e) = rw e (get_or-set_same c k (holding b) wrong h)
held_after_lem c k [] m h (inr e) = rw e (get_or-set_same c k (holding []) wrong h)
held_after_lem c k (x ∷ b) m h (inr e) = rw (e, same_self (x ∷ b)) e

-- and what is answered is Stored or Repeat, with the bytes mended
pub answer-after : (c : List Content) (k : ℕ) (b : List ℕ) (m : ℕ) → (get_or c k wrong ≡ holding []) ⊎ (get_or c k wrong ≡ holding b)
    → (answered (put k b m) c ≡ Ok (Stored m)) ⊎ (answered (put k b m) c ≡ Ok (Repeat m))
answer-after c k b m (inl e) = inl (rw e refl)
answer-after c k [] m (inr e) = inl (rw e refl)
answer-after c k (x ∷ b) m (inr e) = inr (rw (e, same_self (x ∷ b)) refl)

-- ---- an offer, whatever comes

-- it is refused, or it comes to what the packet's place says
pub data Case (h : Record) (s q : List ℕ) : Offering → Type 0 where
  refused : (r : Refusal) → Case h s q (said (Err r) s)
  placed : good (length s) h.places ≡ true → (f : Packet) → read_for h q ≡ Ok f → (i : ℕ) → place_named h.places (packet_name f) ≡ Some i
      → Case h s q (offer_judged (get_or h.places i unused) s (judge (get_or h.places i unused) f q))

module _ (h : Record) (s q : List ℕ) where
  pub offer_case : Case h s q (offer_of h s q)
  offer_case = record-judged (good (length s) h.places) refl
    where
      found : good (length s) h.places ≡ true → (f : Packet) → read_for h q ≡ Ok f → (w : Option ℕ) → place_named h.places (packet_name f) ≡ w → Case h s q (offer_of h s q)
      found g f e (Some i) w = subst (Case h s q) (sym (offer-placed h s q g f e i w)) (placed g f e i w)
      found g f e None w = subst (Case h s q) (sym (offer_unknown h s q g f e w)) (refused Unknown)

      fields_read : good (length s) h.places ≡ true → (x : Result Packet Refusal) → read_for h q ≡ x → Case h s q (offer_of h s q)
      fields_read g (Ok f) e = found g f e (place_named h.places (packet_name f)) refl
      fields_read g (Err r) e = subst (Case h s q) (sym (offer_unread h s q g r e)) (refused r)

      record-judged : (t : Bool) → good (length s) h.places ≡ t → Case h s q (offer_of h s q)
      record-judged true g = fields_read g (read_for h q) refl
      record-judged false g = subst (Case h s q) (sym (offer_bad h s q g)) (refused Refusal.Record)

  pub offer-length : length (offer_of h s q).store ≡ length s
  offer-length = by (offer_of h s q) offer_case
    where
      by : (o : Offering) → Case h s q o → length o.store ≡ length s
      by o (refused r) = refl
      by o (placed g f e i w) = length_at (get_or h.places i unused) f s (judge (get_or h.places i unused) f q)

  -- refused, or a repeat: the store is as it was
  pub offer_unstored : ((m : ℕ) → (offer_of h s q).answer ≡ Ok (Stored m) → ⊥) → (offer_of h s q).store ≡ s
  offer_unstored = by (offer_of h s q) offer_case
    where
      by : (o : Offering) → Case h s q o → ((m : ℕ) → o.answer ≡ Ok (Stored m) → ⊥) → o.store ≡ s
      by o (refused r) d = refl
      by o (placed g f e i w) d = same_at (get_or h.places i unused) f s (judge (get_or h.places i unused) f q) d

  pub offer-refused : (r : Refusal) → (offer_of h s q).answer ≡ Err r → (offer_of h s q).store ≡ s
  offer-refused r e = offer_unstored (λ (m : ℕ) (z : (offer_of h s q).answer ≡ Ok (Stored m)). let o : ◌≡◌ {A = ℕ} 0 1 = cc in omega arith)

  -- ---- the place that the packet names
  module _ (g : good (length s) h.places ≡ true) (f : Packet) (e : read_for h q ≡ Ok f) (i : ℕ) (w : place_named h.places (packet_name f) ≡ Some i) where
    pub offer-sound : Sound (get_or h.places i unused) f (judge (get_or h.places i unused) f q)
    offer-sound = judge-sound (length s) (get_or h.places i unused) f q (named_facts (length s) h.places g (packet_name f) i w) (found-names h.places (packet_name f) i w).1 (read-placed h q f e i w)

    pub offer-answer : (offer_of h s q).answer ≡ answered (judge (get_or h.places i unused) f q) (contents (get_or h.places i unused) s)
    offer-answer =
        ap (λ (o : Offering). o.answer) (offer-placed h s q g f e i w)
        ∙ answer_at (get_or h.places i unused) f s (judge (get_or h.places i unused) f q) offer-sound

    pub offer-holds : contents (get_or h.places i unused) (offer_of h s q).store ≡ held_after (judge (get_or h.places i unused) f q) (contents (get_or h.places i unused) s)
    offer-holds =
        ap (λ (o : Offering). contents (get_or h.places i unused) o.store) (offer-placed h s q g f e i w)
        ∙ holds_at (get_or h.places i unused) f s (judge (get_or h.places i unused) f q) offer-sound
        (named_facts (length s) h.places g (packet_name f) i w).ends-within

  -- ---- a place that it does not name
  pub offer-other : (r : Name) (j : ℕ) → place_named h.places r ≡ Some j → (12 < length q → name_in q ≡ r → ⊥)
      → contents (get_or h.places j unused) (offer_of h s q).store ≡ contents (get_or h.places j unused) s
  offer-other r j n d = by (offer_of h s q) offer_case
    where
      by : (o : Offering) → Case h s q o → contents (get_or h.places j unused) o.store ≡ contents (get_or h.places j unused) s
      by o (refused x) = refl
      by o (placed g f e i w) =
          let a = found-names h.places (packet_name f) i w in
          let b = found-names h.places r j n in
          let least = read-least h q f e in
          let named : name_in q ≡ packet_name f = sym (read_name h q f e) in
          let apart : i ≡ j → ⊥ = λ (z : i ≡ j).
          d (omega arith) (named ∙ sym (names-name (get_or h.places i unused) (packet_name f) a.1) ∙ ap (λ (x : ℕ). place_name (get_or h.places x unused)) z
          ∙ names-name (get_or h.places j unused) r b.1) in
          leaves_at (get_or h.places i unused) f s (judge (get_or h.places i unused) f q) (offer-sound g f e i w) (get_or h.places j unused)
          (apart-meets (get_or h.places i unused) (get_or h.places j unused)
          (good-apart (length s) h.places g i j a.0 b.0 apart
          (names_in_use (get_or h.places i unused) (packet_name f) a.1) (names_in_use (get_or h.places j unused) r b.1)))

-- ---- two stores of one length that hold the same at the place of a resource

same_answer : {o u : Offering} {a : Result Offered Refusal} {s t : List ℕ} → o ≡ said a s → u ≡ said a t → o.answer ≡ u.answer
same_answer e d = ap (λ (x : Offering). x.answer) e ∙ sym (ap (λ (x : Offering). x.answer) d)

module _ (h : Record) (s t q : List ℕ) (n : length s ≡ length t) where
  good-same : (x : Bool) → good (length s) h.places ≡ x → good (length t) h.places ≡ x
  good-same x g = ap (λ (m : ℕ). good m h.places) (sym n) ∙ g

  -- an offer that names it is answered alike
  pub alike_answer : ((i : ℕ) → place_named h.places (name_in q) ≡ Some i → contents (get_or h.places i unused) s ≡ contents (get_or h.places i unused) t)
      → (offer_of h s q).answer ≡ (offer_of h t q).answer
  alike_answer same = judged (good (length s) h.places) refl
    where
      found : good (length s) h.places ≡ true → (f : Packet) → read_for h q ≡ Ok f → (w : Option ℕ) → place_named h.places (packet_name f) ≡ w
          → (offer_of h s q).answer ≡ (offer_of h t q).answer
      found g f e (Some i) w =
          let named : packet_name f ≡ name_in q = read_name h q f e in
          offer-answer h s q g f e i w
          ∙ ap (answered (judge (get_or h.places i unused) f q)) (same i (ap (place_named h.places) (sym named) ∙ w))
          ∙ sym (offer-answer h t q (good-same true g) f e i w)
      found g f e None w = same_answer (offer_unknown h s q g f e w) (offer_unknown h t q (good-same true g) f e w)

      fields : good (length s) h.places ≡ true → (x : Result Packet Refusal) → read_for h q ≡ x → (offer_of h s q).answer ≡ (offer_of h t q).answer
      fields g (Ok f) e = found g f e (place_named h.places (packet_name f)) refl
      fields g (Err r) e = same_answer (offer_unread h s q g r e) (offer_unread h t q (good-same true g) r e)

      judged : (x : Bool) → good (length s) h.places ≡ x → (offer_of h s q).answer ≡ (offer_of h t q).answer
      judged true g = fields g (read_for h q) refl
      judged false g = same_answer (offer_bad h s q g) (offer_bad h t q (good-same false g))

  -- and after any offer they hold the same again
  module _ (r : Name) (j : ℕ) (w : place_named h.places r ≡ Some j) (c : contents (get_or h.places j unused) s ≡ contents (get_or h.places j unused) t) where
    abbrev Alike : Type 0
    Alike = contents (get_or h.places j unused) (offer_of h s q).store ≡ contents (get_or h.places j unused) (offer_of h t q).store

    said_alike : (a : Result Offered Refusal) → offer_of h s q ≡ said a s → offer_of h t q ≡ said a t → Alike
    said_alike a e d =
        ap (λ (o : Offering). contents (get_or h.places j unused) o.store) e ∙ c
        ∙ sym (ap (λ (o : Offering). contents (get_or h.places j unused) o.store) d)

    pub alike_holds : contents (get_or h.places j unused) (offer_of h s q).store ≡ contents (get_or h.places j unused) (offer_of h t q).store
    alike_holds = alike (same_name (name_in q) r) refl
      where
        fields : name_in q ≡ r → good (length s) h.places ≡ true → (x : Result Packet Refusal) → read_for h q ≡ x → Alike
        fields z g (Ok f) e =
            let i : place_named h.places (packet_name f) ≡ Some j = ap (place_named h.places) (read_name h q f e ∙ z) ∙ w in
            offer-holds h s q g f e j i ∙ ap (held_after (judge (get_or h.places j unused) f q)) c ∙ sym (offer-holds h t q (good-same true g) f e j i)
        fields z g (Err x) e = said_alike (Err x) (offer_unread h s q g x e) (offer_unread h t q (good-same true g) x e)

        judged : name_in q ≡ r → (x : Bool) → good (length s) h.places ≡ x → Alike
        judged z true g = fields z g (read_for h q) refl
        judged z false g = said_alike (Err Refusal.Record) (offer_bad h s q g) (offer_bad h t q (good-same false g))

        alike : (x : Bool) → same_name (name_in q) r ≡ x → Alike
        alike true z = judged (name-same _ _ z) (good (length s) h.places) refl
        alike false z = offer-other h s q r j w (λ l. name-other _ _ z) ∙ c ∙ sym (offer-other h t q r j w (λ l. name-other _ _ z))

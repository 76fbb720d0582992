-- What an offer comes to, each case with its condition: document 01, sections 5 and 6.
-- Assumes nothing.
use mathlib.Core.Path.{◌≡◌, refl, sym, ap, ap₂, ◌∙◌}
use mathlib.Core.Bool.{Bool, true, false, cond, not}
use mathlib.Core.List.{List}
use Prim.Native.Nat.{ℕ, zero, suc, ◌+◌, ◌-◌, ◌/◌, ◌%◌, ◌<◌, ◌≤◌}
use native.Mathlib.Omega.{arith}
use borrow.Author.Tests.{lt-ltb, le-ltb, ltb-false, le-leb, leb-true, eq-eqb, ne_eqb, eqb-true, not-false}
use lib.Dec.{eqb, leb, ltb}
use lib.ListN.{length, get_or, take, drop, replicate, length-drop, length-replicate}
use lib.Seq.{sets, take_at, length-take-le}
use Rattle.std.proofs.lemmas.Bool.{and_parts}
use Rattle.ground.proofs.Writing.{sets-front}
use Rattle.ground.proofs.Truth.{and_join}
use Rattle.slices.specs.Slices.{same}
use Rattle.refusals.specs.declared.Refusal.{Refusal}
use Rattle.refusals.specs.declared.Refusal.TheVariants.{Unknown, Other, Edition, Wide, Crc, Slot, Conflict}
use Rattle.repair.specs.Repair.{mending_of, Mends}
use Rattle.repair.proofs.AllRows.{mend_refused}
use Rattle.packet.specs.declared.Packet.{Packet}
use Rattle.packet.specs.Edition.{edition_of}
use Rattle.places.specs.declared.Place.{Place}
use Rattle.places.specs.declared.Record.{Record}
use Rattle.places.specs.Places.{unused, good, place_named}
use Rattle.contents.specs.Slots.{length_at, stored}
use Rattle.contents.specs.Contents.{holding, bytes_at, slot_at, length_fits, slot_of}
use Rattle.contents.proofs.Bytes.{bytes-part}
use Rattle.contents.proofs.Slots.{slot-holds, slot-wrong, slot-empty}
use Rattle.record.specs.declared.Offered.{Offered}
use Rattle.record.specs.declared.Offered.TheVariants.{Stored, Repeat}
use Rattle.code.specs.Mend.{Mended, whole, broken, mend_rows}
use Rattle.record.specs.Mend.{payload_in, mended_in}
use Rattle.sealing.specs.Sealing.{agrees}
use Rattle.record.specs.Offer.{packet_name, read_for, differs, Judged, refuse, put, judge_mended, mend_as, judge, Offering, storing, offer_judged, offer_of, judge_by, offer_by}
use Rattle.record.specs.InnerOffer.{Comes}
use Rattle.record.specs.Put.{judge_crc, slot_has, put_of}
use Rattle.std.specs.Prelude.{Result}
use Rattle.std.specs.Prelude.{Ok, Err}
use Rattle.std.specs.Prelude.{Some, None}

abbrev pub said : Result Offered Refusal → List ℕ → Offering
said a s = record { answer = a; store = s }

-- both parts of a contract, from what the offering is
pub told : {o : Offering} {a : Result Offered Refusal} {s : List ℕ} → o ≡ said a s → Comes o a s
told e = (ap (λ (x : Offering). x.answer) (sym e), ap (λ (x : Offering). x.store) (sym e))

pub come : {o o' : Offering} {a : Result Offered Refusal} {s : List ℕ} → o ≡ o' → Comes o' a s → Comes o a s
come e c = (c.0 ∙ ap (λ (x : Offering). x.answer) (sym e), c.1 ∙ ap (λ (x : Offering). x.store) (sym e))

-- ---- a payload and the slot of its number

module _ (p : Place) (s : List ℕ) (k : ℕ) (b : List ℕ) (m : ℕ) (a : Bool) where
  -- the code's own start of the slot
  module _ (at : ℕ) (d : at ≡ slot_at p k) (r : Bool) (t : r ≡ slot_has p (length s) at (length b)) where
    pub put-nowhere : r ≡ false → put_of p s k b m a ≡ said (Err Refusal.Record) s
    unfolding put_of
    put-nowhere e = rw (← d, sym t ∙ e) refl

    pub put-there : r ≡ true → put_of p s k b m a ≡ offer_judged p s (judge_crc k b m a)
    unfolding put_of
    put-there e = rw (← d, sym t ∙ e) refl

    pub put-room : r ≡ true → (at + (p.slot + 2) ≤ length s) × (length b ≤ p.slot)
    put-room e =
        let w = and_parts (leb (at + (p.slot + 2)) (length s)) (leb (length b) p.slot) (sym t ∙ e) in
        (leb-true _ _ w.0, leb-true _ _ w.1)

  -- a slot that is there
  pub put_at_lem : slot_at p k + (p.slot + 2) ≤ length s → length b ≤ p.slot → put_of p s k b m a ≡ offer_judged p s (judge_crc k b m a)
  put_at_lem l h =
      let t : slot_has p (length s) (slot_at p k) (length b) ≡ true = and_join (le-leb _ _ l) (le-leb _ _ h) in
      put-there (slot_at p k) refl true (sym t) refl

-- which starts at at and has the length n, where the CRC agrees with the payload

pub put-crc : (p : Place) (s : List ℕ) (k : ℕ) (b : List ℕ) (m : ℕ) (a : Bool) → a ≡ false → offer_judged p s (judge_crc k b m a) ≡ said (Err Crc) s
put-crc p s k b m a h = rw h refl

module _ (p : Place) (s : List ℕ) (k : ℕ) (b : List ℕ) (m : ℕ) (a : Bool) (h : a ≡ true) (at : ℕ) (d : at ≡ slot_at p k) (n : ℕ) (e : n ≡ length_at s at) where
  agreed : offer_judged p s (judge_crc k b m a) ≡ offer_judged p s (put k b m)
  agreed = rw h refl

  slot-length : length_at s (slot_at p k) ≡ n
  slot-length = sym (e ∙ ap (length_at s) d)

  pub put_wrong : length_fits p n ≡ false → offer_judged p s (judge_crc k b m a) ≡ said (Err Slot) s
  put_wrong f = agreed ∙ rw (slot-wrong p s k (ap (length_fits p) slot-length ∙ f)) refl

  pub put-empty : n ≡ 0 → offer_judged p s (judge_crc k b m a) ≡ said (Ok (Stored m)) (stored s at b)
  put-empty z = agreed ∙ rw (slot-empty p s k (slot-length ∙ z)) (ap (λ (x : ℕ). said (Ok (Stored m)) (stored s x b)) (sym d))

  -- a slot that holds something, and r says whether that, as the code cuts it out, is the payload
  module _ (f : length_fits p n ≡ true) (full : n ≡ 0 → ⊥) (l : at + 2 + n ≤ length s) (r : Bool) (t : r ≡ same (take (at + 2 + n - (at + 2)) (drop (at + 2) s)) b) where
    bytes_compared : r ≡ same (bytes_at s (at + 2) n) b
    bytes_compared =
        let e : at + 2 + n - (at + 2) ≡ n = omega arith in
        t ∙ ap (λ (x : List ℕ). same x b) (ap (λ (x : ℕ). take x (drop (at + 2) s)) e ∙ sym (bytes-part s (at + 2) n l))

    put_full : offer_judged p s (judge_crc k b m a) ≡ storing s (slot_at p k) b (cond r (Ok (Repeat m)) (Err Conflict))
    put_full = agreed ∙ by n refl
      where
        by : (l : ℕ) → n ≡ l → offer_judged p s (put k b m) ≡ storing s (slot_at p k) b (cond r (Ok (Repeat m)) (Err Conflict))
        by zero w = absurd (full w)
        by (suc l) w =
            let o : slot_of p s k ≡ holding (bytes_at s (slot_at p k + 2) (suc l)) =
            slot-holds p s k (suc l) (slot-length ∙ w) (sym (ap (length_fits p) w) ∙ f) in
            let y : same (bytes_at s (slot_at p k + 2) (suc l)) b ≡ r = sym (bytes_compared ∙ ap₂ (λ (x y : ℕ). same (bytes_at s (x + 2) y) b) d w) in
            rw o (ap (λ (x : Bool). storing s (slot_at p k) b (cond x (Ok (Repeat m)) (Err Conflict))) y)

    pub put_same : r ≡ true → offer_judged p s (judge_crc k b m a) ≡ said (Ok (Repeat m)) s
    put_same w = put_full ∙ ap (λ (x : Bool). storing s (slot_at p k) b (cond x (Ok (Repeat m)) (Err Conflict))) w

    pub put_conflict : r ≡ false → offer_judged p s (judge_crc k b m a) ≡ said (Err Conflict) s
    put_conflict w = put_full ∙ ap (λ (x : Bool). storing s (slot_at p k) b (cond x (Ok (Repeat m)) (Err Conflict))) w

-- ---- the payload of a packet

pub payload_length_lem : (q : List ℕ) → 18 ≤ length q → length (payload_in q) ≡ length q - 18
payload_length_lem q h = length-take-le (length q - 18) (drop 14 q) (omega (arith, length-drop 14 q))

-- as the code cuts it out
abbrev pub cut : List ℕ → List ℕ
cut q = take (length q - 4 - 14) (drop 14 q)

pub payload_cut : (q : List ℕ) → cut q ≡ payload_in q
payload_cut q = let e : length q - 4 - 14 ≡ length q - 18 = omega arith in ap (λ (n : ℕ). take n (drop 14 q)) e

-- the rows of a protected one: at most fifteen
pub rows_cut : (q : List ℕ) → 18 ≤ length q → length q ≤ 4095 → (length q - 18) % 255 ≡ 0 → (length (cut q) ≤ 3825) × (length (cut q) % 255 ≡ 0)
rows_cut q h l m =
    let e : length (cut q) ≡ length q - 18 = ap length (payload_cut q) ∙ payload_length_lem q h in
    let r : (length q - 18) / 255 ≤ 15 = omega arith in
    (omega arith, ap (λ (n : ℕ). n % 255) e ∙ m)

-- a payload at the front of the buffer
pub copied_part : (b l : List ℕ) → length b ≤ 3825 → l ≡ sets (replicate 3825 0) 0 b → take (length b) l ≡ b
copied_part b l h e =
    ap (take (length b)) (e ∙ sets-front (replicate 3825 0) b (omega (arith, length-replicate {A = ℕ} 3825 0)))
    ∙ take_at b (drop (length b) (replicate 3825 0)) (length b) refl

pub mended-plain : (t : ℕ) (q : List ℕ) → t ≡ 0 → mended_in t q ≡ whole (payload_in q) 0
unfolding mended_in
mended-plain t q z = rw (eq-eqb t 0 z) refl

pub mended-rows : (t : ℕ) (q : List ℕ) → (t ≡ 0 → ⊥) → mended_in t q ≡ mend_rows (length (payload_in q) / 255) 0 (payload_in q)
unfolding mended_in
mended-rows t q z = rw (ne_eqb t 0 z) refl

-- ---- a packet judged at a place

-- the payload is b, as it came or repaired at n bytes, and r says whether the CRC agrees
pub mended-crc : (k : ℕ) (q b : List ℕ) (n : ℕ) (m : Mended) → m ≡ whole b n → (r : Bool) → r ≡ agrees q b → judge_mended k q m ≡ judge_crc k b n r
mended-crc k q b n m e r a = ap (judge_mended k q) e ∙ sym (ap (judge_crc k b n) a)

-- what the repair of a payload's rows was answered
module _ (b : List ℕ) (m : length b % 255 ≡ 0) (h : length b ≤ 3825) (v : Result ℕ Refusal) (l : List ℕ) (w : Mends (mending_of b) v l) where
  pub rows-broken : (p : Place) (s : List ℕ) (k : ℕ) (q : List ℕ) (r : Refusal) → v ≡ Err r
      → offer_judged p s (judge_mended k q (mend_rows (length b / 255) 0 b)) ≡ said (Err r) s
  rows-broken p s k q r e =
      let f = mend_refused b m h v l w r e in
      ap (λ (x : Mended). offer_judged p s (judge_mended k q x)) f.2 ∙ ap (λ (x : Refusal). said (Err x) s) (sym f.1)

module _ (p : Place) (f : Packet) (q : List ℕ) where
  pub judge-other : differs p f ≡ true → judge p f q ≡ refuse Other
  unfolding judge_by
  judge-other h = rw h refl

  module _ (d : differs p f ≡ false) where
    pub judge-edition : (edition_of f ≡ p.edition → ⊥) → judge p f q ≡ refuse Edition
    unfolding judge_by
    judge-edition z = rw (d, ne_eqb _ _ z) refl

  -- a packet of the place's file, in its edition
  module _ (d : differs p f ≡ false) (o : edition_of f ≡ p.edition) where
    pub judge_wide : p.slot < length (payload_in q) → judge p f q ≡ refuse Wide
    unfolding judge_by
    judge_wide h = rw (d, eq-eqb _ _ o, lt-ltb p.slot (length (payload_in q)) h) refl

    pub judge_mended_lem : length (payload_in q) ≤ p.slot → judge p f q ≡ judge_mended f.number q (mended_in (mend_as p f) q)
    unfolding judge_by
    judge_mended_lem h = rw (d, eq-eqb _ _ o, le-ltb p.slot (length (payload_in q)) h) refl

    -- what is put is the repaired payload, where its CRC agrees
    pub judge-puts : (b : List ℕ) (n : ℕ) → length (payload_in q) ≤ p.slot → mended_in (mend_as p f) q ≡ whole b n → agrees q b ≡ true → judge p f q ≡ put f.number b n
    judge-puts b n h m a = judge_mended_lem h ∙ mended-crc f.number q b n (mended_in (mend_as p f) q) m true (sym a)

    -- the payload goes on as it came, or to be repaired
    module _ (s : List ℕ) (h : length (payload_in q) ≤ p.slot) where
      pub offer_as_it_came : mend_as p f ≡ 0 → (r : Bool) → r ≡ agrees q (cut q) → offer_judged p s (judge p f q) ≡ offer_judged p s (judge_crc f.number (cut q) 0 r)
      offer_as_it_came z r a =
          ap (offer_judged p s) (judge_mended_lem h ∙ mended-crc f.number q (cut q) 0 (mended_in (mend_as p f) q) (mended-plain (mend_as p f) q z ∙ ap (λ (b : List ℕ). whole b 0) (sym (payload_cut q))) r a)

      pub offer_repaired : (mend_as p f ≡ 0 → ⊥)
          → offer_judged p s (judge p f q) ≡ offer_judged p s (judge_mended f.number q (mend_rows (length (cut q) / 255) 0 (cut q)))
      offer_repaired z =
          ap (offer_judged p s) (judge_mended_lem h ∙ ap (judge_mended f.number q) (mended-rows (mend_as p f) q z))
          ∙ ap (λ (b : List ℕ). offer_judged p s (judge_mended f.number q (mend_rows (length b / 255) 0 b))) (sym (payload_cut q))

-- ---- what is put, and what it comes from: the cases of the judgement are walked through here alone

pub record Puts (p : Place) (f : Packet) (q : List ℕ) (k : ℕ) (b : List ℕ) (m : ℕ) : Type 0 where
  pub number : k ≡ f.number
  pub serves : differs p f ≡ false
  pub edition : edition_of f ≡ p.edition
  pub narrow : length (payload_in q) ≤ p.slot
  pub mended : mended_in (mend_as p f) q ≡ whole b m
  pub crc : agrees q b ≡ true

module _ (k : ℕ) (b : List ℕ) (m : ℕ) where
  passed : (t : Bool) (r : Refusal) (y : Judged) → cond t (refuse r) y ≡ put k b m → (t ≡ false) × (y ≡ put k b m)
  passed true r y e = absurd (let z : ◌≡◌ {A = ℕ} 0 1 = cc in omega arith)
  passed false r y e = (refl, e)

  mended-put : (i : ℕ) (q : List ℕ) (x : Mended) → judge_mended i q x ≡ put k b m → (k ≡ i) × (x ≡ whole b m) × (agrees q b ≡ true)
  mended-put i q (broken j) e = absurd (let z : ◌≡◌ {A = ℕ} 0 1 = cc in omega arith)
  mended-put i q (whole c n) e = by (agrees q c) refl e
    where
      by : (t : Bool) → agrees q c ≡ t → cond t (put i c n) (refuse Crc) ≡ put k b m → (k ≡ i) × (whole c n ≡ whole b m) × (agrees q b ≡ true)
      by true a z =
          let w : c ≡ b = cc in
          let u : n ≡ m = cc in
          (cc, ap₂ whole w u, ap (agrees q) (sym w) ∙ a)
      by false a z = absurd (let z : ◌≡◌ {A = ℕ} 0 1 = cc in omega arith)

  pub puts-known : (p : Place) (f : Packet) (q : List ℕ) → judge p f q ≡ put k b m → Puts p f q k b m
  unfolding judge_by
  puts-known p f q e =
      let o = passed (differs p f) Other _ e in
      let v = passed (not (eqb (edition_of f) p.edition)) Edition _ o.1 in
      let w = passed (ltb p.slot (length (payload_in q))) Wide _ v.1 in
      let x = mended-put f.number q (mended_in (mend_as p f) q) w.1 in
      record { number = x.0; serves = o.0; edition = eqb-true _ _ (not-false _ v.0); narrow = ltb-false _ _ w.0; mended = x.1; crc = x.2 }

-- ---- an offer to a record

module _ (h : Record) (s q : List ℕ) where
  pub offer_bad : good (length s) h.places ≡ false → offer_of h s q ≡ said (Err Refusal.Record) s
  unfolding offer_by
  offer_bad g = rw g refl

  module _ (g : good (length s) h.places ≡ true) where
    pub offer_unread : (r : Refusal) → read_for h q ≡ Err r → offer_of h s q ≡ said (Err r) s
    unfolding offer_by
    offer_unread r e = rw (g, e) refl

    module _ (f : Packet) (e : read_for h q ≡ Ok f) where
      pub offer_unknown : place_named h.places (packet_name f) ≡ None → offer_of h s q ≡ said (Err Unknown) s
      unfolding offer_by
      offer_unknown w = rw (g, e, w) refl

      pub offer-placed : (i : ℕ) → place_named h.places (packet_name f) ≡ Some i
          → offer_of h s q ≡ offer_judged (get_or h.places i unused) s (judge (get_or h.places i unused) f q)
      unfolding offer_by
      offer-placed i w = rw (g, e, w) refl

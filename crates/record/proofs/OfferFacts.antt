-- What is known of a packet that was read and of a payload that is put: document 01, sections 2, 5 and 6. The packet may be any list, also one that is not of bytes.
-- Assumes nothing.
use mathlib.Core.Path.{◌≡◌, refl, sym, ap, ◌∙◌}
use mathlib.Core.Logic.{⊎_elim}
use mathlib.Core.Bool.{Bool, true, false, cond, not, ◌&&◌}
use mathlib.Core.List.{List}
use Prim.Native.Nat.{ℕ, ◌+◌, ◌-◌, ◌*◌, ◌%◌, ◌<◌, ◌≤◌}
use native.Mathlib.Omega.{arith}
use borrow.Author.Tests.{eq-eqb, ne_eqb, eqb-true, eqb-false, leb-false, ltb-false, not-true, not-false}
use lib.Dec.{eqb, ltb}
use lib.ListN.{length, get_or}
use Rattle.std.proofs.lemmas.Bool.{and_parts, or_parts}
use Rattle.refusals.specs.declared.Refusal.{Refusal}
use Rattle.refusals.specs.declared.Refusal.TheVariants.{Short, Mark, Length, «Type», Protection, Number, Rows, Resource}
use Rattle.packet.specs.declared.Packet.{Packet}
use Rattle.packet.specs.Packet.{resource_in, kind_in, fields_in, marked, bad_protection, bad_number, bad_rows, judged, read_by}
use Rattle.packet.proofs.Laws.{resource_in_lem, kind_in_lem}
use Rattle.places.specs.declared.Place.{Place}
use Rattle.places.specs.declared.Record.{Record}
use Rattle.places.specs.declared.Name.{Name}
use Rattle.places.specs.Places.{unused, names, place_named}
use Rattle.settings.specs.Settings.{row_wise}
use Rattle.places.proofs.Named.{names-name}
use Rattle.places.proofs.Facts.{PlaceFacts}
use Rattle.contents.specs.Contents.{slot_at}
use Rattle.contents.proofs.Slots.{slot-within}
use Rattle.record.specs.Offer.{packet_name, name_in, in_columns, read_for, mend_as, differs}
use Rattle.std.specs.Prelude.{Result}
use Rattle.std.specs.Prelude.{Option}
use Rattle.std.specs.Prelude.{Ok, Err}
use Rattle.std.specs.Prelude.{Some}

-- ---- a packet that was read

-- what is known of one by its bytes; its rows only where they are judged
pub record Read (rows : Bool) (q : List ℕ) (f : Packet) : Type 0 where
  pub fields : f ≡ fields_in q
  pub least : 19 ≤ length q
  pub protection : f.protection < 2
  pub below : 0 < f.kind → f.number < f.count
  pub multiple : rows ≡ true → f.protection ≡ 1 → (length q - 18) % 255 ≡ 0

passed : (t : Bool) (r : Refusal) (y : Result Packet Refusal) (f : Packet) → cond t (Err r) y ≡ Ok f → (t ≡ false) × (y ≡ Ok f)
passed true r y f e = absurd (let z : ◌≡◌ {A = ℕ} 0 1 = cc in omega arith)
passed false r y f e = (refl, e)

judged-read : (rows : Bool) (g f : Packet) (n : ℕ) → judged rows g n ≡ Ok f
    → (g ≡ f) × (bad_protection g ≡ false) × (bad_number g ≡ false) × (rows && bad_rows g n ≡ false)
unfolding judged
judged-read rows g f n e =
    let a = passed (eqb g.kind 3) «Type» _ f e in
    let b = passed (bad_protection g) Protection _ f a.1 in
    let c = passed (bad_number g) Number _ f b.1 in
    let d = passed (rows && bad_rows g n) Rows _ f c.1 in
    let h = passed (eqb g.resource 0) Resource _ f d.1 in
    let e : Ok g ≡ Ok f = h.1 in
    (cc, b.0, c.0, d.0)

-- a test that failed though its first part holds
second_fails : (s t : Bool) → (s && t) ≡ false → s ≡ true → t ≡ false
second_fails true t e p = e
second_fails false t e p = absurd (let z : ◌≡◌ {A = ℕ} 0 1 = cc in omega arith)

pub read_known : (rows : Bool) (q : List ℕ) (f : Packet) → read_by rows q ≡ Ok f → Read rows q f
unfolding read_by
read_known rows q f e =
    let a = passed (ltb (length q) 19) Short _ f e in
    let b = passed (not (marked q)) Mark _ f a.1 in
    let c = passed (not (eqb (fields_in q).length (length q))) Length _ f b.1 in
    let j = judged-read rows (fields_in q) f (length q) c.1 in
    let g : fields_in q ≡ f = j.0 in
    let p = or_parts (ltb 1 f.protection) _ (sym (ap bad_protection g) ∙ j.1) in
    record {
      fields = sym g;
      least = ltb-false _ _ a.0;
      protection = let l = ltb-false 1 f.protection p.0 in omega arith;
      below = λ (k : 0 < f.kind). leb-false f.count f.number (rw (ne_eqb f.kind 0 (λ (z : f.kind ≡ 0). omega arith)) at (sym (ap bad_number g) ∙ j.2));
      multiple = λ t (o : f.protection ≡ 1).
          eqb-true _ _ (not-false _ (second_fails (eqb f.protection 1) _ (sym (ap (λ (x : Packet). bad_rows x (length q)) g) ∙ second_fails rows _ j.3 t) (eq-eqb _ _ o)));
    }

-- it names what its bytes name
pub read_names : (rows : Bool) (q : List ℕ) (f : Packet) → read_by rows q ≡ Ok f → packet_name f ≡ name_in q
read_names rows q f e =
    let k = (read_known rows q f e).fields in
    let r : f.resource ≡ resource_in q = ap (λ (x : Packet). x.resource) k ∙ resource_in_lem q in
    let t : f.kind ≡ kind_in q = ap (λ (x : Packet). x.kind) k ∙ kind_in_lem q in
    λ i. record { resource = r i; kind = t i }

-- its fields are the same however it is read
pub read_alike : (rows other : Bool) (q : List ℕ) (f k : Packet) → read_by rows q ≡ Ok f → read_by other q ≡ Ok k → f ≡ k
read_alike rows other q f k e d = (read_known rows q f e).fields ∙ sym (read_known other q k d).fields

-- ---- read for a record

module _ (h : Record) (q : List ℕ) (f : Packet) (e : read_for h q ≡ Ok f) where
  pub read_name : packet_name f ≡ name_in q
  unfolding read_for
  read_name = read_names (not (in_columns h.places (place_named h.places (name_in q)))) q f e

  -- its rows are judged, unless the place that it names is in column order
  pub read-placed : (i : ℕ) → place_named h.places (packet_name f) ≡ Some i → Read (not (eqb (get_or h.places i unused).order 1)) q f
  unfolding read_for
  read-placed i w =
      read_known _ q f (ap (λ (x : Option ℕ). read_by (not (in_columns h.places x)) q) (sym (ap (place_named h.places) (sym read_name) ∙ w)) ∙ e)

  pub read-least : 19 ≤ length q
  unfolding read_for
  read-least = (read_known _ q f e).least

-- ---- a packet of the file that a place collects

pub record SameFile (p : Place) (f : Packet) : Type 0 where
  pub update : f.update ≡ p.update
  pub count : f.count ≡ p.count
  pub protection : f.protection ≡ p.protection
  pub rows : f.protection ≡ 1 → f.rows ≡ p.rows

module _ (p : Place) (f : Packet) where
  pub same-file : differs p f ≡ false → SameFile p f
  unfolding differs
  same-file e =
      let b = or_parts (not (eqb f.update p.update)) _ e in
      let c = or_parts (not (eqb f.count p.count)) _ b.1 in
      let d = or_parts (not (eqb f.protection p.protection)) _ c.1 in
      record {
        update = eqb-true _ _ (not-false _ b.0);
        count = eqb-true _ _ (not-false _ c.0);
        protection = eqb-true _ _ (not-false _ d.0);
        rows = λ (o : f.protection ≡ 1). eqb-true _ _ (not-false _ (second_fails (eqb f.protection 1) _ d.1 (eq-eqb _ _ o)));
      }

  pub same-serves : SameFile p f → differs p f ≡ false
  unfolding differs
  same-serves s =
      rw (eq-eqb _ _ s.update, eq-eqb _ _ s.count, eq-eqb _ _ s.protection) (by (eqb f.protection 1) refl)
    where
      by : (t : Bool) → eqb f.protection 1 ≡ t → (t && not (eqb f.rows p.rows)) ≡ false
      by true e = ap not (eq-eqb _ _ (s.rows (eqb-true _ _ e)))
      by false e = refl

-- a place that a packet names holds no stream, so the packet is none
pub no_stream : (n : ℕ) (p : Place) (f : Packet) → PlaceFacts n p → names p (packet_name f) ≡ true → 0 < f.kind
no_stream n p f w e =
    let k : p.kind ≡ f.kind = ap (λ (x : Name). x.kind) (names-name p (packet_name f) e) in
    ⊎_elim (λ (o : p.kind ≡ 1). omega arith) (λ (o : p.kind ≡ 2). omega arith) w.kind_either

-- its number is one of the place's slots
pub slot-below : (p : Place) (f : Packet) → f.number < f.count → differs p f ≡ false → f.number < p.count
slot-below p f b d = omega (arith, (same-file p f d).count)

pub slot-room : (n : ℕ) (p : Place) (f : Packet) → PlaceFacts n p → f.number < f.count → differs p f ≡ false
    → slot_at p f.number + (p.slot + 2) ≤ n
slot-room n p f w b d = omega (arith, (slot-within p f.number (slot-below p f b d)).1, w.ends-within)

-- ---- whether rows are mended: with protection, in row order

module _ (p : Place) (f : Packet) where
  pub mends_nothing : row_wise f.protection p.order ≡ false → mend_as p f ≡ 0
  mends_nothing w = rw w refl

  pub rows-protected : f.protection < 2 → row_wise f.protection p.order ≡ true → f.protection ≡ 1
  rows-protected l w =
      let z : f.protection ≡ 0 → ⊥ = eqb-false _ _ (not-true _ (and_parts (not (eqb f.protection 0)) (eqb p.order 0) w).0) in
      omega arith

  pub mends_rows : row_wise f.protection p.order ≡ true → mend_as p f ≡ 0 → ⊥
  mends_rows w e =
      let z : f.protection ≡ 0 → ⊥ = eqb-false _ _ (not-true _ (and_parts (not (eqb f.protection 0)) (eqb p.order 0) w).0) in
      z (sym (rw w refl) ∙ e)

  -- there the packet's rows were judged as it was read
  pub rows-judged : row_wise f.protection p.order ≡ true → not (eqb p.order 1) ≡ true
  rows-judged w =
      let o : p.order ≡ 0 = eqb-true _ _ (and_parts (not (eqb f.protection 0)) (eqb p.order 0) w).1 in
      ap not (ne_eqb p.order 1 (λ x. omega arith))

-- where a slot starts, as the code reckons it
pub slot-sum : (p : Place) (k : ℕ) → slot_at p k ≡ p.start + k * (p.slot + 2)
unfolding slot_at
slot-sum p k = refl

-- What came of a file: a byte of a filled slot is the file's, since the restored row has every byte that is known. And how the pass over what came goes on, chunk by chunk.
-- Assumes nothing.
use mathlib.Core.Path.{◌≡◌, refl, sym, ap, subst, ◌∙◌}
use mathlib.Core.Logic.{inl, inr, ⊎_elim}
use mathlib.Core.Bool.{Bool, true, false, not, ◌&&◌}
use mathlib.Core.List.{List}
use Prim.Native.Nat.{ℕ, ◌+◌, ◌-◌, ◌*◌, ◌/◌, ◌%◌, ◌<◌, ◌≤◌, min}
use native.Mathlib.Nat.{div-lt_iff_lt-mul, mod-lt, div-add-mod'}
use native.Mathlib.Omega.{arith}
use borrow.Author.Tests.{eq-eqb, ne_eqb, eqb-true}
use lib.Arith.{digits_div, digits_mod}
use lib.Dec.{eqb}
use lib.ListN.{length, get_or, take, drop}
use lib.Seq.{sets}
use Rattle.std.proofs.lemmas.Bool.{cases_eq}
use Rattle.ground.proofs.Listed.{get_or-listed, get_or-listed_0, ceil_upper, le_or_lt}
use Rattle.ground.proofs.Truth.{differ}
use Rattle.code.specs.Search.{Repaired}
use Rattle.code.specs.Search.Repaired.{found, none}
use Rattle.code.specs.Restore.{Fits}
use Rattle.code.proofs.Restored.{restore_fits}
use Rattle.layout.specs.Layout.{tables_of, spot_of}
use Rattle.places.specs.declared.Place.{Place}
use Rattle.contents.specs.Slots.{length_at}
use Rattle.contents.specs.Contents.{Slot as Content, bytes_at, slot_at, length_fits, contents}
use Rattle.contents.proofs.Bytes.{length-bytes, bytes-part}
use Rattle.contents.proofs.Slots.{slot-holds, slot-wrong, slot-within}
use Rattle.contents.proofs.Filled.{wrong-none}
use Rattle.contents.proofs.Places.{length-contents, reading_slots}
use Rattle.losses.specs.Losses.{payload_of, payload_at, came_at, lost_at, sent_at, row_came, lost_in}
use Rattle.columns.specs.Columns.{sent_length, misfits, row_restored, is_none, uncoded, row_in}
use Rattle.columns.specs.InnerWrite.{Writable}
use Rattle.columns.specs.InnerBytes.{sent_of, row_number, aim_of, Known, Nearer, Together, Copied}
use Rattle.columns.proofs.Nearing.{nearer_still, nearer_then, nearer_less, nearer_sets}
use Rattle.columns.proofs.Standings.{column-below, sent_row, sent_below, number-below}

-- a filled slot that does not misfit
fitting : (l total : ℕ) → (not (eqb l 0) && not (eqb l total)) ≡ false → (l ≡ 0 → ⊥) → l ≡ total
fitting l total e some = by (eqb l total) refl (rw (ne_eqb l 0 some) at e)
  where
    by : (b : Bool) → eqb l total ≡ b → not b ≡ false → l ≡ total
    by true t u = eqb-true l total t
    by false t u = differ u

module _ (p : Place) (s : List ℕ) (n : ℕ) (w : Writable p s n) where
  abbrev held : List Content
  held = contents p s

  -- ---- one slot
  module _ (k : ℕ) (h : k < p.count) where
    abbrev size : ℕ
    size = length_at s (slot_at p k)

    slot-fits : length_fits p size ≡ true
    slot-fits = by (length_fits p size) refl
      where
        by : (b : Bool) → length_fits p size ≡ b → b ≡ true
        by true t = refl
        by false t =
            absurd (wrong-none held w.right k (omega (arith, length-contents p s)) (reading_slots p s k h ∙ slot-wrong p s k t))

    payload_is : payload_at held k ≡ bytes_at s (slot_at p k + 2) size
    payload_is = ap payload_of (reading_slots p s k h ∙ slot-holds p s k size refl slot-fits)

    payload_long : length (payload_at held k) ≡ size
    payload_long = ap length payload_is ∙ length-bytes s (slot_at p k + 2) size

    slot-size : (size ≡ 0 → ⊥) → size ≡ min p.slot (sent_length p.rows n - k * p.slot)
    unfolding misfits
    slot-size some =
        fitting size (min p.slot (sent_length p.rows n - k * p.slot))
        (subst (λ (x : ℕ). (not (eqb x 0) && not (eqb x (min p.slot (sent_length p.rows n - k * p.slot)))) ≡ false) payload_long (w.shaped k h)) some

    pub slot-lost : (j : ℕ) → j / p.slot ≡ k → lost_at p.slot held j ≡ eqb size 0
    slot-lost j e = ap (λ (x : ℕ). eqb (length (payload_at held x)) 0) e ∙ ap (λ (x : ℕ). eqb x 0) payload_long

    pub slot_came : (j : ℕ) → j < sent_length p.rows n → j / p.slot ≡ k → (size ≡ 0 → ⊥) → came_at p.slot held j ≡ get_or s (slot_at p k + 2 + j % p.slot) 0
    slot_came j b e some =
        let r : j % p.slot < p.slot = mod-lt j w.slot in
        let d : k * p.slot + j % p.slot ≡ j = ap (λ (x : ℕ). x * p.slot + j % p.slot) (sym e) ∙ div-add-mod' j p.slot in
        ap (λ (x : ℕ). get_or (payload_at held x) (j % p.slot) 0) e ∙ ap (λ (x : List ℕ). get_or x (j % p.slot) 0) payload_is
        ∙ get_or-listed (λ i. get_or s i 0) size (slot_at p k + 2) (j % p.slot) 0 (omega (arith, slot-size some))

  pub slot-below : (j : ℕ) → j < sent_length p.rows n → j / p.slot < p.count
  slot-below j b =
      let u : sent_length p.rows n ≤ p.count * p.slot =
      subst (λ (x : ℕ). sent_length p.rows n ≤ x * p.slot) w.count (ceil_upper (sent_length p.rows n) p.slot w.slot) in
      (div-lt_iff_lt-mul w.slot).1 (omega arith)

  -- ---- one row

  pub row-found : (q : ℕ) → q < p.rows * tables_of p.rows n → (r : List ℕ) × (row_restored p.rows p.slot held q ≡ found r)
  unfolding uncoded
  row-found q h = by (row_restored p.rows p.slot held q) refl (w.coded q h)
    where
      by : (a : Repaired) → row_restored p.rows p.slot held q ≡ a → is_none a ≡ false → (r : List ℕ) × (row_restored p.rows p.slot held q ≡ found r)
      by (found r) e t = (r, e)
      by none e t = differ t

  module _ (q : ℕ) (r : List ℕ) (e : row_restored p.rows p.slot held q ≡ found r) where
    pub row_fits : Fits (lost_in p.rows p.slot held q) (row_came p.rows p.slot held q) r
    unfolding row_restored
    row_fits = restore_fits (lost_in p.rows p.slot held q) (row_came p.rows p.slot held q) r e

    pub aim_is : (i : ℕ) → row_number p.rows i ≡ q → aim_of p s i ≡ get_or r (spot_of p.rows i).column 0
    unfolding aim_of
    aim_is i d =
        ap (λ (x : ℕ). get_or (row_in (row_restored p.rows p.slot held x)) (spot_of p.rows i).column 0) d
        ∙ ap (λ (x : Repaired). get_or (row_in x) (spot_of p.rows i).column 0) e

  pub row_at_lem : (q k : ℕ) → k < 255 → get_or (row_came p.rows p.slot held q) k 0 ≡ came_at p.slot held (sent_at p.rows q k)
  unfolding row_came
  row_at_lem q k h = get_or-listed_0 (λ k. came_at p.slot held (sent_at p.rows q k)) 255 k 0 h

  -- a byte that came is the file's
  pub known_aim : (i : ℕ) → i < n → Known p s i → came_at p.slot held (sent_of p.rows i) ≡ aim_of p s i
  known_aim i b known =
      let m : ℕ = p.rows in
      let q : ℕ = row_number m i in
      let k : ℕ = (spot_of m i).column in
      let c : k < 255 = omega (arith, column-below m w.rows i) in
      let f = row-found q (number-below m w.rows n i b) in
      ap (came_at p.slot held) (sym (sent_row m w.rows i)) ∙ sym (row_at_lem q k c)
      ∙ sym ((row_fits q f.0 f.1).known k c (ap (lost_at p.slot held) (sent_row m w.rows i) ∙ known))
      ∙ sym (aim_is q f.0 f.1 i refl)

  -- ---- one chunk

  -- those of the bytes from f up to g that came
  abbrev pub KnownIn : ℕ → ℕ → ℕ → Type 0
  KnownIn f g i = (f ≤ i) × (i < g) × Known p s i

  module _ (f slot from len : ℕ) (t : Together p.rows p.slot n f slot from len) where
    sent_at_lem : (i : ℕ) → f ≤ i → i < f + len → sent_of p.rows i ≡ slot * p.slot + (from + (i - f))
    sent_at_lem i a b =
        let e : f + (i - f) ≡ i = omega arith in
        ap (sent_of p.rows) (sym e) ∙ t.at (i - f) (omega arith)

    slot_at_lem : (i : ℕ) → f ≤ i → i < f + len → sent_of p.rows i / p.slot ≡ slot
    slot_at_lem i a b = ap (λ (x : ℕ). x / p.slot) (sent_at_lem i a b) ∙ digits_div slot (omega (arith, t.inside))

    byte_at_lem : (i : ℕ) → f ≤ i → i < f + len → sent_of p.rows i % p.slot ≡ from + (i - f)
    byte_at_lem i a b = ap (λ (x : ℕ). x % p.slot) (sent_at_lem i a b) ∙ digits_mod slot (omega (arith, t.inside))

    -- the slot is one of the place's
    pub chunk_slot : slot < p.count
    chunk_slot =
        subst (λ (x : ℕ). x < p.count) (slot_at_lem f (omega arith) (omega (arith, t.some)))
        (slot-below (sent_of p.rows f) (sent_below p.rows w.rows n f (omega (arith, t.some, t.ends))))

    pub chunk_room : slot_at p slot + 2 + from + len ≤ length s
    chunk_room = omega (arith, (slot-within p slot chunk_slot).1, w.ends, t.inside)

    module _ (before after : List ℕ) (room : n ≤ length before) (copied : Copied s (slot_at p slot) from len f before after) where
      abbrev here : ℕ
      here = length_at s (slot_at p slot)

      lost-here : (i : ℕ) → f ≤ i → i < f + len → lost_at p.slot held (sent_of p.rows i) ≡ eqb here 0
      lost-here i a b = slot-lost slot chunk_slot (sent_of p.rows i) (slot_at_lem i a b)

      empty_chunk : here ≡ 0 → Nearer (aim_of p s) n (KnownIn f (f + len)) before after
      empty_chunk z =
          subst (Nearer (aim_of p s) n (KnownIn f (f + len)) before) (sym (copied.empty z))
          (nearer_still (aim_of p s) n (KnownIn f (f + len)) before (λ i h x. differ (sym (eq-eqb here 0 z) ∙ sym (lost-here i x.0 x.1) ∙ x.2)))

      bytes : List ℕ
      bytes = bytes_at s (slot_at p slot + 2 + from) len

      many : length bytes ≡ len
      unfolding bytes
      many = length-bytes s (slot_at p slot + 2 + from) len

      aimed : (here ≡ 0 → ⊥) → (k : ℕ) → k < len → get_or bytes k 0 ≡ aim_of p s (f + k)
      unfolding bytes
      aimed some k h =
          let i : ℕ = f + k in
          let b : i < n = omega (arith, t.ends) in
          let e : slot_at p slot + 2 + from + k ≡ slot_at p slot + 2 + (from + (f + k - f)) = omega arith in
          get_or-listed (λ x. get_or s x 0) len (slot_at p slot + 2 + from) k 0 h ∙ ap (λ (x : ℕ). get_or s x 0) e
          ∙ ap (λ (x : ℕ). get_or s (slot_at p slot + 2 + x) 0) (sym (byte_at_lem i (omega arith) (omega arith)))
          ∙ sym (slot_came slot chunk_slot (sent_of p.rows i) (sent_below p.rows w.rows n i b) (slot_at_lem i (omega arith) (omega arith)) some)
          ∙ known_aim i b (lost-here i (omega arith) (omega arith) ∙ ne_eqb here 0 some)

      filled_chunk : (here ≡ 0 → ⊥) → Nearer (aim_of p s) n (KnownIn f (f + len)) before after
      unfolding bytes
      filled_chunk some =
          subst (Nearer (aim_of p s) n (KnownIn f (f + len)) before) (sym (copied.filled some))
          (nearer_less (aim_of p s) n (λ i. (f ≤ i) × (i < f + length bytes)) (KnownIn f (f + len)) before (sets before f bytes)
          (nearer_sets (aim_of p s) n before f bytes (omega (arith, many, t.ends)) room (λ k h. aimed some k (omega (arith, many))))
          (λ i h x. (x.0, omega (arith, many, x.1))))

      pub chunk_done : Nearer (aim_of p s) n (KnownIn f (f + len)) before after
      chunk_done = ⊎_elim empty_chunk filled_chunk (cases_eq here 0)

-- ---- the pass: what came of the first f bytes is written

pub record Copying (p : Place) (s : List ℕ) (n : ℕ) (before out : List ℕ) (f : ℕ) : Type 0 where
  pub within : f ≤ n
  pub nearer : Nearer (aim_of p s) n (λ i. (i < f) × Known p s i) before out

pub copying_first : (p : Place) (s : List ℕ) (n : ℕ) (before : List ℕ) → Copying p s n before before 0
copying_first p s n before =
    record { within = omega arith; nearer = nearer_still (aim_of p s) n (λ i. (i < 0) × Known p s i) before (λ i h x. omega (arith, x.0)) }

module _ (p : Place) (s : List ℕ) (n : ℕ) (w : Writable p s n) (before out : List ℕ) (f : ℕ) (v : Copying p s n before out f) where
  pub copying_next : n ≤ length before → (slot from len : ℕ) → Together p.rows p.slot n f slot from len → (after : List ℕ) → Copied s (slot_at p slot) from len f out after
      → Copying p s n before after (f + len)
  copying_next room slot from len t after c = record {
    within = t.ends;
    nearer =
        nearer_then (aim_of p s) n (λ i. (i < f) × Known p s i) (KnownIn p s n w f (f + len)) (λ i. (i < f + len) × Known p s i) before out after v.nearer
        (chunk_done p s n w f slot from len t out after (omega (arith, v.nearer.long)) c)
        (λ i h x. ⊎_elim (λ (a : f ≤ i). inr (a, x.0, x.1)) (λ (a : i < f). inl (a, x.1)) (le_or_lt f i));
  }

  pub copying_end : n ≤ f → Nearer (aim_of p s) n (Known p s) before out
  copying_end h = nearer_less (aim_of p s) n (λ i. (i < f) × Known p s i) (Known p s) before out v.nearer (λ i b k. (omega arith, k))

-- ---- what is copied of one slot

module _ (s : List ℕ) (at from len to : ℕ) (before : List ℕ) where
  pub copied_none : (l : ℕ) → l ≡ length_at s at → l ≡ 0 → Copied s at from len to before before
  copied_none l e z = record { empty = λ x. refl; filled = λ x. absurd (x (sym e ∙ z)) }

  pub copied_some : (l : ℕ) → l ≡ length_at s at → (l ≡ 0 → ⊥) → at + 2 + from + len ≤ length s → (after : List ℕ)
      → after ≡ sets before to (take (at + 2 + from + len - (at + 2 + from)) (drop (at + 2 + from) s)) → Copied s at from len to before after
  copied_some l e some room after d =
      let z : at + 2 + from + len - (at + 2 + from) ≡ len = omega arith in
      record {
        empty = λ x. absurd (some (e ∙ x));
        filled = λ x. d ∙ ap (sets before to) (ap (λ (y : ℕ). take y (drop (at + 2 + from) s)) z ∙ sym (bytes-part s (at + 2 + from) len room));
      }

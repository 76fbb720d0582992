-- Where the bytes of what was sent stand in a place: slot by slot (`payload_at`, specs/Losses.antt), and in the store.
-- Assumes nothing.
use mathlib.Core.Path.{◌≡◌, refl, sym, ap, ◌∙◌}
use mathlib.Core.Bool.{Bool, true, false, not, ◌&&◌, ◌||◌}
use mathlib.Core.List.{List}
use Prim.Native.Nat.{ℕ, ◌+◌, ◌-◌, ◌*◌, ◌/◌, ◌%◌, ◌≤◌, ◌<◌}
use native.Mathlib.Nat.{add-mul, one-mul, mul-add, div-add-mod', div-eq_of_lt-le}
use native.Mathlib.Omega.{arith}
use borrow.Author.Tests.{eq-eqb, ne_eqb}
use lib.Dec.{eqb, leb}
use lib.ListN.{length, get_or, get_or-eq_default}
use Rattle.ground.proofs.Listed.{get_or-listed}
use Rattle.places.specs.declared.Place.{Place}
use Rattle.places.specs.Places.{end_of, in_rows}
use Rattle.contents.specs.Slots.{length_at}
use Rattle.contents.specs.Contents.{wrong, bytes_at, slot_at, length_fits, contents}
use Rattle.contents.proofs.Bytes.{length-bytes}
use Rattle.contents.proofs.Slots.{slot-holds, slot-wrong, slot-within, fits-room}
use Rattle.contents.proofs.Places.{length-contents, reading_slots}
use Rattle.losses.specs.Losses.{payload_of, payload_at}
use Rattle.losses.specs.InnerRuns.{byte_in, gone_in, Held}

-- ---- the slot of a byte

module _ (size k y : ℕ) (a : k * size ≤ y) (b : y < k * size + size) where
  pub slot_is : y / size ≡ k
  slot_is =
      div-eq_of_lt-le {k = k} size {m = y} a
      (let e : (k + 1) * size ≡ k * size + size = add-mul k 1 size ∙ ap (λ (x : ℕ). k * size + x) (one-mul size) in omega arith)

  pub place_is : y % size ≡ y - k * size
  place_is =
      let d : y / size * size + y % size ≡ y = div-add-mod' y size in
      let e : y / size * size ≡ k * size = ap (λ (x : ℕ). x * size) slot_is in
      omega arith

-- ---- what a slot holds

module _ (p : Place) (s : List ℕ) (k : ℕ) where
  pub held-beyond : p.count ≤ k → Held p s k 0
  held-beyond h =
      record {
        fits = omega arith;
        inside = λ l. absurd (omega arith);
        bytes = ap payload_of (get_or-eq_default (contents p s) wrong {n = k} (omega (arith, length-contents p s)));
      }

  module _ (h : k < p.count) (at n : ℕ) (place : at ≡ slot_at p k) (long : n ≡ length_at s at) where
    pub held-wrong : length_fits p n ≡ false → Held p s k 0
    held-wrong w =
        record {
          fits = omega arith;
          inside = λ l. h;
          bytes = ap payload_of (reading_slots p s k h ∙ slot-wrong p s k (ap (λ (x : ℕ). length_fits p (length_at s x)) (sym place) ∙ ap (length_fits p) (sym long) ∙ w));
        }

    pub held-right : length_fits p n ≡ true → Held p s k n
    held-right w =
        record {
          fits = fits-room p n w;
          inside = λ l. h;
          bytes = ap payload_of (reading_slots p s k h ∙ slot-holds p s k n (ap (length_at s) (sym place) ∙ sym long) w);
        }

-- as the code forms it
pub slot-sum : (p : Place) (k : ℕ) → p.start + k * (p.slot + 2) ≡ slot_at p k
unfolding slot_at
slot-sum p k = refl

-- its length lies in the store
pub slot-room : (p : Place) (k size : ℕ) → k < p.count → end_of p ≤ size → p.start + k * (p.slot + 2) + 2 ≤ size
unfolding slot_at
slot-room p k size h l = omega (arith, (slot-within p k h).1)

-- whether a length fits, where it is known whether payloads are whole rows
pub fits-known : (p : Place) (n : ℕ) (b : Bool) → b ≡ in_rows p → (leb n p.slot && (not b || eqb (n % 255) 0)) ≡ length_fits p n
fits-known p n b e = ap (λ (x : Bool). leb n p.slot && (not x || eqb (n % 255) 0)) e

-- ---- a column that stands in slot k

module _ {p : Place} {s : List ℕ} {k n : ℕ} (held : Held p s k n) where
  module _ (first x : ℕ) (a : k * p.slot ≤ first + x * p.rows) (b : first + x * p.rows < k * p.slot + p.slot) where
    abbrev y : ℕ
    y = first + x * p.rows

    here : payload_at (contents p s) (y / p.slot) ≡ bytes_at s (slot_at p k + 2) n
    here = ap (payload_at (contents p s)) (slot_is p.slot k y a b) ∙ held.bytes

    byte-here : byte_in p s first x ≡ get_or (bytes_at s (slot_at p k + 2) n) (y - k * p.slot) 0
    byte-here =
        ap (λ (l : List ℕ). get_or l (y % p.slot) 0) here
        ∙ ap (λ (i : ℕ). get_or (bytes_at s (slot_at p k + 2) n) i 0) (place_is p.slot k y a b)

    -- within its payload, it stands 2 * (k + 1) bytes behind the place's start
    pub byte_came : y < k * p.slot + n → byte_in p s first x ≡ get_or s (p.start + 2 * k + 2 + y) 0
    unfolding slot_at
    byte_came l =
        let t : k * (p.slot + 2) ≡ k * p.slot + k * 2 = mul-add k p.slot 2 in
        let e : p.start + k * (p.slot + 2) + 2 + (y - k * p.slot) ≡ p.start + 2 * k + 2 + y = omega arith in
        byte-here ∙ get_or-listed (λ i. get_or s i 0) n (slot_at p k + 2) (y - k * p.slot) 0 (omega arith) ∙ ap (λ (i : ℕ). get_or s i 0) e

    -- behind it there is 0
    pub byte-none : k * p.slot + n ≤ y → byte_in p s first x ≡ 0
    byte-none l =
        byte-here
        ∙ get_or-eq_default (bytes_at s (slot_at p k + 2) n) 0 {n = y - k * p.slot} (omega (arith, length-bytes s (slot_at p k + 2) n))

    gone-here : gone_in p s first x ≡ eqb n 0
    gone-here = ap (λ (l : List ℕ). eqb (length l) 0) here ∙ ap (λ (i : ℕ). eqb i 0) (length-bytes s (slot_at p k + 2) n)

    -- lost exactly where the slot has no bytes
    pub gone-empty : n ≡ 0 → gone_in p s first x ≡ true
    gone-empty e = gone-here ∙ eq-eqb n 0 e

    pub gone_not : (n ≡ 0 → ⊥) → gone_in p s first x ≡ false
    gone_not e = gone-here ∙ ne_eqb n 0 e

  -- the payload lies in the store
  pub held-inside : (n ≡ 0 → ⊥) → p.start + 2 * k + 2 + (k * p.slot + n) ≤ end_of p
  unfolding slot_at
  held-inside d =
      let t : k * (p.slot + 2) ≡ k * p.slot + k * 2 = mul-add k p.slot 2 in
      omega (arith, (slot-within p k (held.inside (omega arith))).1, held.fits)

-- A walk along the slots of a place, one after the other: document 01, section 5. What a slot holds stands in the joined payloads from where the slots before
-- it end. Every pass over a place goes by these laws. Assumes nothing.
use mathlib.Core.Path.{◌≡◌, refl, sym, ap, ap₂, ◌∙◌}
use mathlib.Core.Bool.{Bool, true, false, true≢false, ◌&&◌}
use mathlib.Core.List.{List, ◌∷◌, ◌++◌}
use Prim.Native.Nat.{ℕ, ◌+◌, ◌*◌, ◌/◌, ◌%◌, ◌<◌, ◌≤◌}
use native.Mathlib.Nat.{zero-add}
use native.Mathlib.Omega.{arith}
use borrow.Author.Tests.{eq-eqb, ne_eqb, eqb-true}
use lib.Dec.{eqb, leb}
use lib.ListN.{length, get_or, length-append, get_or-append}
use lib.Seq.{get_or-append-add}
use Rattle.ground.proofs.Listed.{get_or-listed}
use Rattle.places.specs.declared.Place.{Place}
use Rattle.contents.specs.Slots.{length_at}
use Rattle.contents.specs.Contents.{Slot as Content, bytes_at, slot_at, length_fits, contents, joined}
use Rattle.contents.proofs.Bytes.{length-bytes}
use Rattle.contents.proofs.Slots.{fits-room, slot-holds, slot-wrong, slot-within}
use Rattle.contents.proofs.Walks.{contents_from, walk_all, walk_step, walk_end, walk_on}
use Rattle.contents.proofs.Filled.{wrong-none}
use Rattle.contents.proofs.Places.{length-contents, reading_slots}
use Rattle.handing.specs.Passes.{sent_in, Filled}

-- ---- a length that fits a slot is one of whole rows where there is protection, in row order
pub fits-rows : (p : Place) (n : ℕ) → length_fits p n ≡ true → (p.protection ≡ 0 → ⊥) → p.order ≡ 0 → n / 255 * 255 ≡ n
fits-rows p n f h o =
    let e : n % 255 ≡ 0 = by (leb n p.slot) (eqb (n % 255) 0) refl (rw (ne_eqb p.protection 0 h, eq-eqb p.order 0 o) at f) in
    omega arith
  where
    by : (a b : Bool) → eqb (n % 255) 0 ≡ b → (a && b) ≡ true → n % 255 ≡ 0
    by true true e t = eqb-true (n % 255) 0 e
    by true false e t = absurd (true≢false (sym t))
    by false b e t = absurd (true≢false (sym t))

-- ---- a walk over slots none of which is wrong: the slots before k hold o bytes
pub record Walk (p : Place) (s : List ℕ) (k o : ℕ) : Type 0 where
  pub short : o ≤ slot_at p k
  pub whole : o + length (joined (contents_from p s k)) ≡ length (sent_in p s)
  pub ahead : (j : ℕ) → get_or (sent_in p s) (o + j) 0 ≡ get_or (joined (contents_from p s k)) j 0

-- ---- what holds at slot k, whose length is l
pub record Turn (p : Place) (s : List ℕ) (k o l : ℕ) : Type 0 where
  pub fits : length_fits p l ≡ true
  pub inside : slot_at p k + (p.slot + 2) ≤ length s
  pub room : slot_at p k + 2 + l ≤ length s
  pub ends : o + l ≤ length (sent_in p s)
  -- the slot's payload stands in the joined ones from o on
  pub reads : (j : ℕ) → j < l → get_or (sent_in p s) (o + j) 0 ≡ get_or s (slot_at p k + 2 + j) 0
  pub next : Walk p s (k + 1) (o + l)

module _ (p : Place) (s : List ℕ) where
  pub walk_first : Walk p s 0 0
  walk_first =
      let e : joined (contents_from p s 0) ≡ sent_in p s = ap joined (walk_all p s) in
      record {
        short = omega arith;
        whole = omega (arith, ap length e);
        ahead = λ j. ap₂ (λ (l : List ℕ) (i : ℕ). get_or l i 0) (sym e) (zero-add j);
      }

  module _ (k o : ℕ) (w : Walk p s k o) where
    pub walk_done : p.count ≤ k → o ≡ length (sent_in p s)
    walk_done h = omega (arith, w.whole, ap (λ (c : List Content). length (joined c)) (walk_end p s k h))

    module _ (f : Filled p s) (h : k < p.count) (l : ℕ) (e : l ≡ length_at s (slot_at p k)) where
      turn_fits : length_fits p l ≡ true
      turn_fits = by (length_fits p l) refl
        where
          by : (b : Bool) → length_fits p l ≡ b → b ≡ true
          by true t = refl
          by false t =
              absurd (wrong-none (contents p s) f.right k (omega (arith, length-contents p s))
              (reading_slots p s k h ∙ slot-wrong p s k (rw (sym e) t)))

      turn_inside : slot_at p k + (p.slot + 2) ≤ length s
      turn_inside = omega (arith, (slot-within p k h).1, f.ends)

      here : joined (contents_from p s k) ≡ bytes_at s (slot_at p k + 2) l ++ joined (contents_from p s (k + 1))
      here = ap joined (walk_step p s k h ∙ ap (λ (x : Content). x ∷ contents_from p s (k + 1)) (slot-holds p s k l (sym e) turn_fits))

      size : length (bytes_at s (slot_at p k + 2) l) ≡ l
      size = length-bytes s (slot_at p k + 2) l

      long : length (joined (contents_from p s k)) ≡ l + length (joined (contents_from p s (k + 1)))
      long = ap length here ∙ length-append (bytes_at s (slot_at p k + 2) l) (joined (contents_from p s (k + 1))) ∙ ap (λ (x : ℕ). x + length (joined (contents_from p s (k + 1)))) size

      turn_reads : (j : ℕ) → j < l → get_or (sent_in p s) (o + j) 0 ≡ get_or s (slot_at p k + 2 + j) 0
      turn_reads j b =
          w.ahead j ∙ ap (λ (x : List ℕ). get_or x j 0) here
          ∙ get_or-append (bytes_at s (slot_at p k + 2) l) (joined (contents_from p s (k + 1))) 0 j (omega (arith, size))
          ∙ get_or-listed (λ i. get_or s i 0) l (slot_at p k + 2) j 0 b

      walk_next : Walk p s (k + 1) (o + l)
      walk_next = record {
        short = omega (arith, w.short, fits-room p l turn_fits, walk_on p k);
        whole = omega (arith, w.whole, long);
        ahead = λ j.
            let i : o + l + j ≡ o + (l + j) = omega arith in
            ap (λ (x : ℕ). get_or (sent_in p s) x 0) i ∙ w.ahead (l + j) ∙ ap₂ (λ (x : List ℕ) (y : ℕ). get_or x (y + j) 0) here (sym size)
            ∙ get_or-append-add (bytes_at s (slot_at p k + 2) l) (joined (contents_from p s (k + 1))) j 0;
      }

      pub turn : Turn p s k o l
      turn = record {
        fits = turn_fits;
        inside = turn_inside;
        room = omega (arith, fits-room p l turn_fits, turn_inside);
        ends = omega (arith, w.whole, long);
        reads = turn_reads;
        next = walk_next;
      }

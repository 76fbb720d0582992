-- What storing and clearing do to the contents of a place and of every other.
-- Assumes nothing.
use mathlib.Core.Path.{◌≡◌, refl, sym, ap₂, ◌∙◌}
use mathlib.Core.Bool.{Bool, true, false, not, ◌||◌}
use mathlib.Core.List.{List, [], ◌∷◌, ◌++◌}
use mathlib.Core.Logic.{◌⊎◌, inl, inr}
use Prim.Native.Nat.{ℕ, zero, suc, ◌+◌, ◌*◌, ◌<◌, ◌≤◌}
use native.Mathlib.Nat.{add-zero, zero-add}
use native.Mathlib.Omega.{arith}
use borrow.Author.Tests.{le-leb, leb-true}
use lib.Dec.{leb}
use lib.ListN.{length, set, get_or-append}
use Rattle.ground.specs.Lists.{listed}
use Rattle.ground.proofs.Listed.{length-listed, get_or-listed_0, listed_ext, listed_constant}
use Rattle.places.specs.declared.Place.{Place}
use Rattle.places.specs.Places.{end_of, meets}
use Rattle.contents.specs.Slots.{length_at, cleared, stored}
use Rattle.contents.specs.Contents.{Slot, wrong, holding, slot_at, slot_of, contents}
use Rattle.contents.specs.Laws.{ReadingSlots, StoringSets, StoringLeaves, ClearingEmpties, ClearingLeaves, WithinAlone, BehindNothing}
use Rattle.contents.proofs.Bytes.{Off, bytes-agree, stored_off, cleared_off, cleared_hit}
use Rattle.contents.proofs.Slots.{slot-within, slots_off, fits-room, slot-empty, slot-stored, slot-told, slot-agree}

-- two functions that differ at one number alone
listed-set : {A : Type 0} (f g : ℕ → A) (n i k : ℕ) (v : A) → ((j : ℕ) → (j ≡ i + k → ⊥) → g j ≡ f j) → g (i + k) ≡ v → listed g n i ≡ set (listed f n i) k v
listed-set f g zero i k v e d = refl
listed-set f g (suc n) i zero v e d =
    ap₂ ◌∷◌ (rw (add-zero i) at d) (listed_ext g f n (suc i) (λ j a b. e j (omega arith)))
listed-set f g (suc n) i (suc k) v e d =
    let z : i + suc k ≡ suc i + k = omega arith in
    ap₂ ◌∷◌ (e i (omega arith)) (listed-set f g n (suc i) k v (λ j h. e j (λ y. h (y ∙ z))) (rw z at d))

-- ---- the contents as a list

pub length-contents : (p : Place) (s : List ℕ) → length (contents p s) ≡ p.count
unfolding contents
length-contents p s = length-listed (slot_of p s) p.count 0

pub reading_slots : ReadingSlots
unfolding contents
reading_slots p s k h = get_or-listed_0 (slot_of p s) p.count k wrong h

-- the same slots, the same contents
pub contents-same : (p : Place) (s t : List ℕ) → ((k : ℕ) → k < p.count → slot_of p s k ≡ slot_of p t k) → contents p s ≡ contents p t
unfolding contents
contents-same p s t e = listed_ext (slot_of p s) (slot_of p t) p.count 0 (λ k a b. e k (omega arith))

pub contents-listed : (p : Place) (s : List ℕ) (f : ℕ → Slot) → ((k : ℕ) → k < p.count → slot_of p s k ≡ f k) → contents p s ≡ listed f p.count 0
unfolding contents
contents-listed p s f e = listed_ext (slot_of p s) f p.count 0 (λ k a b. e k (omega arith))

-- ---- which bytes they depend on

pub within-alone : WithinAlone
within-alone p s t e =
    contents-same p s t (λ k h.
    let w = slot-within p k h in
    slot-agree p s t k (λ i x y. e i (omega (arith, w.0)) (omega (arith, w.1))))

-- a longer store
pub contents_longer : (p : Place) (s t : List ℕ) → end_of p ≤ length s → contents p (s ++ t) ≡ contents p s
contents_longer p s t h = within-alone p (s ++ t) s (λ i x y. get_or-append s t 0 i (omega arith))

pub behind-nothing : BehindNothing
behind-nothing p s t e =
    contents-same p s t (λ k h.
    let w = e k h in
    slot-told p s t k w.0 (λ l. bytes-agree s t (slot_at p k + 2) (length_at s (slot_at p k)) w.1))

-- ---- places that have no byte in common

pub apart_sides : (p o : Place) → meets p o ≡ false → (end_of p ≤ o.start) ⊎ (end_of o ≤ p.start)
unfolding meets
apart_sides p o e = sides (leb (end_of p) o.start) (leb (end_of o) p.start) refl refl e
  where
    sides : (x y : Bool) → leb (end_of p) o.start ≡ x → leb (end_of o) p.start ≡ y → not (x || y) ≡ false → (end_of p ≤ o.start) ⊎ (end_of o ≤ p.start)
    sides true y a b e = inl (leb-true (end_of p) o.start a)
    sides false true a b e = inr (leb-true (end_of o) p.start b)
    sides false false a b e = let z : ◌≡◌ {A = ℕ} 0 1 = cc in absurd (omega arith)

pub apart-meets : (p o : Place) → (end_of p ≤ o.start) ⊎ (end_of o ≤ p.start) → meets p o ≡ false
unfolding meets
apart-meets p o (inl h) = rw (le-leb _ _ h)
apart-meets p o (inr h) = rw (le-leb _ _ h) (either (leb (end_of p) o.start))
  where
    either : (x : Bool) → not (x || true) ≡ false
    either true = refl
    either false = refl

place_off : (p o : Place) (at i m : ℕ) → (end_of p ≤ o.start) ⊎ (end_of o ≤ p.start) → o.start ≤ i → i < end_of o → p.start ≤ at → at + m ≤ end_of p → Off i at m
place_off p o at i m (inl h) a b c d = inr (omega arith)
place_off p o at i m (inr h) a b c d = inl (omega arith)

-- ---- storing

pub storing-sets : StoringSets
unfolding contents
storing-sets p s k b fits h l =
    let w = slot-within p k h in
    let r : length b ≤ p.slot = fits-room p (length b) l in
    let z : 0 + k ≡ k = zero-add k in
    listed-set (slot_of p s) (slot_of p (stored s (slot_at p k) b)) p.count 0 k (holding b)
    (λ j d. slot-agree p (stored s (slot_at p k) b) s j
    (λ i x y. stored_off s (slot_at p k) b i (slots_off p j k i (length b + 2) (λ e. d (e ∙ sym z)) x y (omega arith))))
    (rw z (slot-stored p s k b (omega (arith, w.1)) l))

pub storing-leaves : StoringLeaves
storing-leaves p o s k b a h l =
    let w = slot-within p k h in
    within-alone o (stored s (slot_at p k) b) s
    (λ i x y. stored_off s (slot_at p k) b i (place_off p o (slot_at p k) i (length b + 2) (apart_sides p o a) x y w.0 (omega (arith, w.1))))

-- ---- clearing

pub clearing_empties : ClearingEmpties
unfolding contents slot_at end_of
clearing_empties p s fits =
    contents-listed p (cleared s p.start p.count (p.slot + 2)) (λ k. holding [])
    (λ k h. slot-empty p _ k (cleared_hit s p.start p.count (p.slot + 2) k (omega arith) fits h))
    ∙ listed_constant (holding []) p.count 0

pub clearing_leaves : ClearingLeaves
unfolding end_of
clearing_leaves p o s a =
    within-alone o (cleared s p.start p.count (p.slot + 2)) s
    (λ i x y. cleared_off s p.start p.count (p.slot + 2) i (omega arith)
    (place_off p o p.start i (p.count * (p.slot + 2)) (apart_sides p o a) x y (omega arith) (omega arith)))

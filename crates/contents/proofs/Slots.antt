-- One slot of a place: where it stands, and what of the store it is read from.
-- Assumes nothing.
use mathlib.Core.Path.{◌≡◌, refl, sym, ap, ◌∙◌}
use mathlib.Core.Bool.{Bool, true, false, true≢false, not, ◌&&◌, ◌||◌}
use mathlib.Core.List.{List, []}
use mathlib.Core.Logic.{◌⊎◌, inl, inr}
use Prim.Native.Nat.{ℕ, suc, ◌+◌, ◌*◌, ◌%◌, ◌<◌, ◌≤◌}
use native.Mathlib.Nat.{suc-mul, mul-le-mul_right}
use native.Mathlib.Omega.{arith}
use borrow.Author.Tests.{le-leb, leb-true, leb-false, eq-eqb}
use lib.Dec.{eqb, leb}
use lib.ListN.{length, get_or}
use Rattle.places.specs.declared.Place.{Place}
use Rattle.places.specs.Places.{end_of, in_rows}
use Rattle.places.proofs.Facts.{slot-within as place-holds}
use Rattle.contents.specs.Slots.{length_at, stored}
use Rattle.contents.specs.Contents.{wrong, holding, bytes_at, slot_at, length_fits, slot_of}
use Rattle.contents.proofs.Bytes.{Off, bytes-agree, stored-length, stored_bytes}

-- ---- where slots stand

pub slot-first : (p : Place) → slot_at p 0 ≡ p.start
unfolding slot_at
slot-first p = omega arith

pub slot_next : (p : Place) (k : ℕ) → slot_at p (suc k) ≡ slot_at p k + (p.slot + 2)
unfolding slot_at
slot_next p k = omega (arith, suc-mul k (p.slot + 2))

-- one behind the other
pub slot-order : (p : Place) (j k : ℕ) → j < k → slot_at p j + (p.slot + 2) ≤ slot_at p k
unfolding slot_at
slot-order p j k h =
    let m : suc j * (p.slot + 2) ≤ k * (p.slot + 2) = mul-le-mul_right (p.slot + 2) h in
    omega (arith, suc-mul j (p.slot + 2))

-- within the place
pub slot-within : (p : Place) (k : ℕ) → k < p.count → (p.start ≤ slot_at p k) × (slot_at p k + (p.slot + 2) ≤ end_of p)
unfolding slot_at
slot-within p k h = (omega arith, place-holds p k h)

-- the bytes of one slot are none of another's
pub slots_off : (p : Place) (j k i m : ℕ) → (j ≡ k → ⊥) → slot_at p j ≤ i → i < slot_at p j + (p.slot + 2) → m ≤ p.slot + 2 → Off i (slot_at p k) m
slots_off p j k i m d a b l = side (leb k j) refl
  where
    side : (x : Bool) → leb k j ≡ x → Off i (slot_at p k) m
    side true h = inr (omega (arith, slot-order p k j (omega (arith, leb-true k j h))))
    side false h = inl (omega (arith, slot-order p j k (leb-false k j h)))

-- ---- which lengths fit a slot

pub fits_made : (p : Place) (n : ℕ) → n ≤ p.slot → (in_rows p ≡ false) ⊎ (n % 255 ≡ 0) → length_fits p n ≡ true
fits_made p n h (inl e) = rw (le-leb n p.slot h, e)
fits_made p n h (inr e) = rw (le-leb n p.slot h, eq-eqb (n % 255) 0 e) (either (not (in_rows p)))
  where
    either : (x : Bool) → (x || true) ≡ true
    either true = refl
    either false = refl

pub fits-room : (p : Place) (n : ℕ) → length_fits p n ≡ true → n ≤ p.slot
fits-room p n e = by (leb n p.slot) (not (in_rows p) || eqb (n % 255) 0) refl e
  where
    by : (x y : Bool) → leb n p.slot ≡ x → (x && y) ≡ true → n ≤ p.slot
    by true y t h = leb-true n p.slot t
    by false y t h = absurd (true≢false (sym h))

pub fits-none : (p : Place) → length_fits p 0 ≡ true
fits-none p = fits_made p 0 (omega arith) (inr refl)

-- ---- what a slot is read as

pub slot-holds : (p : Place) (s : List ℕ) (k n : ℕ) → length_at s (slot_at p k) ≡ n → length_fits p n ≡ true → slot_of p s k ≡ holding (bytes_at s (slot_at p k + 2) n)
unfolding slot_of
slot-holds p s k n e h = rw (e, h)

pub slot-wrong : (p : Place) (s : List ℕ) (k : ℕ) → length_fits p (length_at s (slot_at p k)) ≡ false → slot_of p s k ≡ wrong
unfolding slot_of
slot-wrong p s k h = rw h

pub slot-empty : (p : Place) (s : List ℕ) (k : ℕ) → length_at s (slot_at p k) ≡ 0 → slot_of p s k ≡ holding []
slot-empty p s k e = slot-holds p s k 0 e (fits-none p)

pub slot-stored : (p : Place) (s : List ℕ) (k : ℕ) (b : List ℕ) → slot_at p k + 2 + length b ≤ length s → length_fits p (length b) ≡ true → slot_of p (stored s (slot_at p k) b) k ≡ holding b
slot-stored p s k b h l =
    slot-holds p (stored s (slot_at p k) b) k (length b) (stored-length s (slot_at p k) b h) l ∙ ap holding (stored_bytes s (slot_at p k) b h)

-- from its length, and as many bytes behind it
pub slot-told : (p : Place) (s t : List ℕ) (k : ℕ) → length_at s (slot_at p k) ≡ length_at t (slot_at p k)
    → (length_at s (slot_at p k) ≤ p.slot → bytes_at s (slot_at p k + 2) (length_at s (slot_at p k)) ≡ bytes_at t (slot_at p k + 2) (length_at s (slot_at p k)))
    → slot_of p s k ≡ slot_of p t k
slot-told p s t k e b = told (length_fits p (length_at s (slot_at p k))) refl
  where
    told : (x : Bool) → length_fits p (length_at s (slot_at p k)) ≡ x → slot_of p s k ≡ slot_of p t k
    told true h =
        slot-holds p s k (length_at s (slot_at p k)) refl h ∙ ap holding (b (fits-room p (length_at s (slot_at p k)) h))
        ∙ sym (slot-holds p t k (length_at s (slot_at p k)) (sym e) h)
    told false h = slot-wrong p s k h ∙ sym (slot-wrong p t k (rw e at h))

pub slot-agree : (p : Place) (s t : List ℕ) (k : ℕ) → ((i : ℕ) → slot_at p k ≤ i → i < slot_at p k + (p.slot + 2) → get_or s i 0 ≡ get_or t i 0) → slot_of p s k ≡ slot_of p t k
slot-agree p s t k e =
    let a = e (slot_at p k) (omega arith) (omega arith) in
    let b = e (slot_at p k + 1) (omega arith) (omega arith) in
    slot-told p s t k (rw (a, b)) (λ h. bytes-agree s t (slot_at p k + 2) (length_at s (slot_at p k)) (λ i x y. e i (omega arith) (omega arith)))

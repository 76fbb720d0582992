-- The bytes of a store after slots were cleared or a payload was stored: at the bytes written, and at every other.
-- Assumes nothing.
use mathlib.Core.Path.{◌≡◌, refl, sym, ap, ap₂, ◌∙◌}
use mathlib.Core.Bool.{true, false}
use mathlib.Core.List.{List, [], ◌∷◌}
use mathlib.Core.Logic.{◌⊎◌, inl, inr}
use Prim.Native.Nat.{ℕ, zero, suc, ◌+◌, ◌*◌, ◌/◌, ◌%◌, ◌<◌, ◌≤◌}
use native.Mathlib.Nat.{suc-mul}
use native.Mathlib.Numerals.{add-one, add-two}
use native.Mathlib.Omega.{arith}
use borrow.Author.Tests.{lt-ltb, le-leb}
use borrow.Rule.Slice.PartMut.{put_mid}
use lib.ListN.{length, get_or, set, take, drop, length-set}
use lib.Seq.{sets, set_comm, get_or-set_same, get_or-set_other, length-sets}
use Rattle.std.proofs.lemmas.Bool.Decides.{nat_tests}
use Rattle.ground.proofs.Writing.{put_whole}
use Rattle.ground.proofs.Listed.{length-listed, listed_ext, listed-part}
use Rattle.refusals.specs.declared.Refusal.TheVariants.{Output}
use Rattle.contents.specs.Slots.{length_at, cleared, stored, room_for, slot_verdict, stored_within}
use Rattle.contents.specs.Contents.{bytes_at}
use Rattle.std.specs.Prelude.{Ok, Err}

-- ---- the n bytes from at on

pub bytes-agree : (s t : List ℕ) (at n : ℕ) → ((i : ℕ) → at ≤ i → i < at + n → get_or s i 0 ≡ get_or t i 0) → bytes_at s at n ≡ bytes_at t at n
bytes-agree s t at n e = listed_ext (λ i. get_or s i 0) (λ i. get_or t i 0) n at e

pub length-bytes : (s : List ℕ) (at n : ℕ) → length (bytes_at s at n) ≡ n
length-bytes s at n = length-listed (λ i. get_or s i 0) n at

pub bytes-part : (s : List ℕ) (at n : ℕ) → at + n ≤ length s → bytes_at s at n ≡ take n (drop at s)
bytes-part s at n h = listed-part s 0 n at h

-- ---- after stores one behind the other

-- j is not one of the n numbers from at on
abbrev pub Off : ℕ → ℕ → ℕ → Type 0
Off j at n = (j < at) ⊎ (at + n ≤ j)

pub sets_below : (l : List ℕ) (at : ℕ) (vs : List ℕ) (j : ℕ) → j < at → get_or (sets l at vs) j 0 ≡ get_or l j 0
sets_below l at [] j h = refl
sets_below l at (v ∷ vs) j h = sets_below (set l at v) (suc at) vs j (omega arith) ∙ get_or-set_other l at j v 0 (omega arith)

pub sets-above : (l : List ℕ) (at : ℕ) (vs : List ℕ) (j : ℕ) → at + length vs ≤ j → get_or (sets l at vs) j 0 ≡ get_or l j 0
sets-above l at [] j h = refl
sets-above l at (v ∷ vs) j h = sets-above (set l at v) (suc at) vs j (omega arith) ∙ get_or-set_other l at j v 0 (omega arith)

pub sets_hit : (l : List ℕ) (at : ℕ) (vs : List ℕ) → at + length vs ≤ length l → bytes_at (sets l at vs) at (length vs) ≡ vs
sets_hit l at [] h = refl
sets_hit l at (v ∷ vs) h =
    ap₂ ◌∷◌ (sets_below (set l at v) (suc at) vs at (omega arith) ∙ get_or-set_same l at v 0 (omega arith))
    (sets_hit (set l at v) (suc at) vs (omega (arith, length-set l at v)))

-- ---- a payload first, then its length: the same as in the order in which they stand

set_before : (s : List ℕ) (i x : ℕ) (at : ℕ) (b : List ℕ) → i < at → set (sets s at b) i x ≡ sets (set s i x) at b
set_before s i x at [] h = refl
set_before s i x at (v ∷ b) h =
    set_before (set s at v) i x (suc at) b (omega arith)
    ∙ ap (λ (l : List ℕ). sets l (suc at) b) (set_comm s at i v x (omega arith))

-- the length's two bytes are put there as one part
pub stored_made : (s : List ℕ) (at : ℕ) (b : List ℕ) (l ys : List ℕ) (k : ℕ) → at + 2 ≤ length s → l ≡ sets s (at + 2) b → k ≡ 2
    → ys ≡ length b % 256 ∷ length b / 256 ∷ [] → put_mid at k l ys ≡ stored s at b
stored_made s at b l ys k h c d e =
    let z : length l ≡ length s = ap length c ∙ length-sets s (at + 2) b in
    put_whole l ys at k (ap length e ∙ sym d) (omega arith) ∙ ap₂ (λ (x y : List ℕ). sets x at y) c e
    ∙ ap (λ (x : List ℕ). set x (suc at) (length b / 256)) (set_before s at (length b % 256) (at + 2) b (omega arith))
    ∙ set_before (set s at (length b % 256)) (suc at) (length b / 256) (at + 2) b (omega arith)
    ∙ rw (add-two at) refl

-- ---- where there is room

module _ (size at n : ℕ) where
  pub room_made : n < 65536 → at + 2 + n ≤ size → room_for size at n ≡ true
  room_made h l = rw (lt-ltb n 65536 h, le-leb (at + 2 + n) size l) refl

  pub slot_served : room_for size at n ≡ true → (Ok tt) ≡ slot_verdict size at n
  unfolding slot_verdict
  slot_served e = rw e refl

  pub slot-refused : room_for size at n ≡ false → Err Output ≡ slot_verdict size at n
  unfolding slot_verdict
  slot-refused e = rw e refl

  pub room-known : room_for size at n ≡ true → (n < 65536) × (at + 2 + n ≤ size)
  room-known e = (grind (arith, nat_tests), grind (arith, nat_tests))

module _ (s : List ℕ) (at : ℕ) (b : List ℕ) where
  pub stored_within_lem : room_for (length s) at (length b) ≡ true → stored_within s at b ≡ stored s at b
  unfolding stored_within
  stored_within_lem e = rw e refl

  pub stored-nowhere : room_for (length s) at (length b) ≡ false → stored_within s at b ≡ s
  unfolding stored_within
  stored-nowhere e = rw e refl

-- ---- after a payload was stored

pub length-stored : (s : List ℕ) (at : ℕ) (b : List ℕ) → length (stored s at b) ≡ length s
length-stored s at b = length-sets s at (length b % 256 ∷ length b / 256 ∷ b)

pub stored_off : (s : List ℕ) (at : ℕ) (b : List ℕ) (j : ℕ) → Off j at (length b + 2) → get_or (stored s at b) j 0 ≡ get_or s j 0
stored_off s at b j (inl h) = sets_below s at (length b % 256 ∷ length b / 256 ∷ b) j h
stored_off s at b j (inr h) = sets-above s at (length b % 256 ∷ length b / 256 ∷ b) j (omega arith)

module _ (s : List ℕ) (at : ℕ) (b : List ℕ) (h : at + 2 + length b ≤ length s) where
  written : bytes_at (stored s at b) at (suc (suc (length b))) ≡ length b % 256 ∷ length b / 256 ∷ b
  written = sets_hit s at (length b % 256 ∷ length b / 256 ∷ b) (omega arith)

  pub stored-length : length_at (stored s at b) at ≡ length b
  stored-length =
      let e = written in
      let low : get_or (stored s at b) at 0 ≡ length b % 256 = cc in
      let high : get_or (stored s at b) (suc at) 0 ≡ length b / 256 = cc in
      rw (add-one at, low, high) (omega arith)

  pub stored_bytes : bytes_at (stored s at b) (at + 2) (length b) ≡ b
  stored_bytes =
      let e = written in
      let a : bytes_at (stored s at b) (suc (suc at)) (length b) ≡ b = cc in
      rw (add-two at) a

-- ---- after n slots, w bytes apart, were cleared

-- the length of one slot set to 0
abbrev emptied : List ℕ → ℕ → List ℕ
emptied s at = set (set s at 0) (at + 1) 0

length_emptied : (s : List ℕ) (at : ℕ) → length (emptied s at) ≡ length s
length_emptied s at = length-set (set s at 0) (at + 1) 0 ∙ length-set s at 0

emptied_off : (s : List ℕ) (at j : ℕ) → Off j at 2 → get_or (emptied s at) j 0 ≡ get_or s j 0
emptied_off s at j (inl h) = get_or-set_other (set s at 0) (at + 1) j 0 0 (omega arith) ∙ get_or-set_other s at j 0 0 (omega arith)
emptied_off s at j (inr h) = get_or-set_other (set s at 0) (at + 1) j 0 0 (omega arith) ∙ get_or-set_other s at j 0 0 (omega arith)

pub length-cleared : (s : List ℕ) (at n w : ℕ) → length (cleared s at n w) ≡ length s
unfolding cleared
length-cleared s at zero w = refl
length-cleared s at (suc n) w = length-cleared (emptied s at) (at + w) n w ∙ length_emptied s at

pub cleared-below : (s : List ℕ) (at n w j : ℕ) → j < at → get_or (cleared s at n w) j 0 ≡ get_or s j 0
unfolding cleared
cleared-below s at zero w j h = refl
cleared-below s at (suc n) w j h =
    cleared-below (emptied s at) (at + w) n w j (omega arith) ∙ emptied_off s at j (inl h)

pub cleared-above : (s : List ℕ) (at n w j : ℕ) → 2 ≤ w → at + n * w ≤ j → get_or (cleared s at n w) j 0 ≡ get_or s j 0
unfolding cleared
cleared-above s at zero w j g h = refl
cleared-above s at (suc n) w j g h =
    let m : suc n * w ≡ n * w + w = suc-mul n w in
    cleared-above (emptied s at) (at + w) n w j g (omega arith) ∙ emptied_off s at j (inr (omega arith))

pub cleared_off : (s : List ℕ) (at n w j : ℕ) → 2 ≤ w → Off j at (n * w) → get_or (cleared s at n w) j 0 ≡ get_or s j 0
cleared_off s at n w j g (inl h) = cleared-below s at n w j h
cleared_off s at n w j g (inr h) = cleared-above s at n w j g h

-- both bytes of each slot's length are 0
pub cleared_hit : (s : List ℕ) (at n w k : ℕ) → 2 ≤ w → at + n * w ≤ length s → k < n → length_at (cleared s at n w) (at + k * w) ≡ 0
unfolding cleared
cleared_hit s at zero w k g h l = absurd (omega arith)
cleared_hit s at (suc n) w zero g h l =
    let m : suc n * w ≡ n * w + w = suc-mul n w in
    let z : at + 0 * w ≡ at = omega arith in
    let low : get_or (cleared (emptied s at) (at + w) n w) at 0 ≡ 0 =
    cleared-below (emptied s at) (at + w) n w at (omega arith)
    ∙ get_or-set_other (set s at 0) (at + 1) at 0 0 (omega arith)
    ∙ get_or-set_same s at 0 0 (omega arith) in
    let high : get_or (cleared (emptied s at) (at + w) n w) (at + 1) 0 ≡ 0 =
    cleared-below (emptied s at) (at + w) n w (at + 1) (omega arith)
    ∙ get_or-set_same (set s at 0) (at + 1) 0 0 (omega (arith, length-set s at 0)) in
    rw (z, low, high) (omega arith)
cleared_hit s at (suc n) w (suc k) g h l =
    let m : suc n * w ≡ n * w + w = suc-mul n w in
    let e : at + suc k * w ≡ at + w + k * w = omega (arith, suc-mul k w) in
    rw e (cleared_hit (emptied s at) (at + w) n w k g (omega (arith, length_emptied s at)) (omega arith))

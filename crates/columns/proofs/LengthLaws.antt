-- What is judged by lengths alone: the place, the file's length, and the loop over the lengths of the slots.
-- Assumes nothing.
use mathlib.Core.Path.{◌≡◌, refl, sym, ap, ap₂, ◌∙◌}
use mathlib.Core.Bool.{Bool, true, false, not, ◌&&◌}
use mathlib.Core.List.{List}
use Prim.Native.Nat.{ℕ, suc, ◌+◌, ◌-◌, ◌*◌, ◌^◌, ◌<◌, ◌≤◌, min}
use native.Mathlib.Nat.{suc-mul, mul_assoc}
use native.Mathlib.Omega.{arith}
use borrow.Author.Tests.{le-leb, lt-leb, leb-true, eqb-true}
use lib.Dec.{eqb, leb}
use lib.ListN.{length}
use Rattle.std.proofs.lemmas.Bool.{and_parts}
use Rattle.ground.specs.Lists.{ceil}
use Rattle.layout.specs.Layout.{tables_of}
use Rattle.places.specs.declared.Place.{Place}
use Rattle.places.specs.Room.{lowest_from}
use Rattle.contents.specs.Slots.{length_at}
use Rattle.contents.specs.Contents.{Slot as Content, slot_at, length_fits, contents, any_wrong}
use Rattle.contents.proofs.Bytes.{length-bytes}
use Rattle.contents.proofs.Slots.{slot-holds, slot-wrong}
use Rattle.contents.proofs.Filled.{wrong-none}
use Rattle.contents.proofs.Places.{length-contents, reading_slots}
use Rattle.losses.specs.Losses.{payload_of, payload_at, tabled}
use Rattle.losses.proofs.Tabling.{tabled_facts}
use Rattle.columns.specs.Columns.{sent_length, length_serves, misfits}
use Rattle.columns.specs.InnerJudge.{Tabled, is_nothing}
use Rattle.columns.proofs.Lowest.{lowest_left, left-first, left_end, left_here, left-next}
use Rattle.columns.proofs.Standings.{rows_few as rows_short}
use Rattle.std.specs.Prelude.{Option}

-- ---- the place

pub tabled-known : (p : Place) (s : List ℕ) → tabled p (length s) ≡ true → Tabled p s
tabled-known p s t =
    let f = tabled_facts p (length s) t in
    record { fits = t; ends = f.ends; rows = f.rows; slot = f.slot }

-- ---- the rows of all tables

pub rows_few : (m n : ℕ) → 1 ≤ m → m ≤ 255 → n ≤ 16777216 → m * tables_of m n < 2 ^ 17
rows_few m n h l b = omega (arith, rows_short m n h)

-- their bytes are all that was sent
pub rows_sent_lem : (m n r : ℕ) → r ≡ m * tables_of m n → 255 * r ≡ sent_length m n
rows_sent_lem m n r e = ap (λ (x : ℕ). 255 * x) e ∙ sym (mul_assoc 255 m (tables_of m n))

-- ---- the file's length

module _ (p : Place) (n : ℕ) where
  pub serves-none : n ≡ 0 → false ≡ length_serves p n
  unfolding length_serves
  serves-none z = let h : n < 1 = omega arith in rw (lt-leb 1 n h) refl

  module _ (h : n ≡ 0 → ⊥) where
    some : leb 1 n ≡ true
    some = let l : 1 ≤ n = omega arith in le-leb 1 n l

    pub serves_much : 16777216 < n → false ≡ length_serves p n
    unfolding length_serves
    serves_much l = rw (some, lt-leb n 16777216 l) refl

    pub serves-count : n ≤ 16777216 → (r : ℕ) → r ≡ p.rows * tables_of p.rows n → eqb (ceil (255 * r) p.slot) p.count ≡ length_serves p n
    unfolding length_serves
    serves-count l r e = rw (some, le-leb n 16777216 l, rows_sent_lem p.rows n r e) refl

  -- what is known of one that serves
  pub record Served : Type 0 where
    pub least : 1 ≤ n
    pub most : n ≤ 16777216
    pub count : ceil (sent_length p.rows n) p.slot ≡ p.count

  pub serves-known : length_serves p n ≡ true → Served
  unfolding length_serves
  serves-known t =
      let a = and_parts (leb 1 n) (leb n 16777216 && eqb (ceil (sent_length p.rows n) p.slot) p.count) t in
      let b = and_parts (leb n 16777216) (eqb (ceil (sent_length p.rows n) p.slot) p.count) a.1 in
      record {
        least = leb-true 1 n a.0;
        most = leb-true n 16777216 b.0;
        count = eqb-true (ceil (sent_length p.rows n) p.slot) p.count b.1;
      }

-- ---- a slot

-- a slot that is not wrong has the length that stands in it
payload_length_lem : (p : Place) (s : List ℕ) → any_wrong (contents p s) ≡ false → (k : ℕ) → k < p.count → length (payload_at (contents p s) k) ≡ length_at s (slot_at p k)
payload_length_lem p s w k h = by (length_fits p (length_at s (slot_at p k))) refl
  where
    by : (b : Bool) → length_fits p (length_at s (slot_at p k)) ≡ b → length (payload_at (contents p s) k) ≡ length_at s (slot_at p k)
    by true t =
        ap (λ (x : Content). length (payload_of x)) (reading_slots p s k h ∙ slot-holds p s k (length_at s (slot_at p k)) refl t)
        ∙ length-bytes s (slot_at p k + 2) (length_at s (slot_at p k))
    by false t = absurd (wrong-none (contents p s) w k (omega (arith, length-contents p s)) (reading_slots p s k h ∙ slot-wrong p s k t))

-- ---- the loop: at slot k; of what was sent, so much is left for it and those behind it

pub record Fitting (p : Place) (s : List ℕ) (total left k : ℕ) : Type 0 where
  pub remains : left ≡ total - k * p.slot
  pub rest : lowest_left (misfits p.slot total (contents p s)) p.count k ≡ lowest_from (misfits p.slot total (contents p s)) 0 p.count

module _ (p : Place) (s : List ℕ) (total : ℕ) where
  abbrev all : Option ℕ
  all = lowest_from (misfits p.slot total (contents p s)) 0 p.count

  pub fitting_first : (left : ℕ) → left ≡ total → Fitting p s total left 0
  fitting_first left e =
      let z : total - 0 * p.slot ≡ total = omega arith in
      record { remains = e ∙ sym z; rest = left-first (misfits p.slot total (contents p s)) p.count }

  module _ (left k : ℕ) (v : Fitting p s total left k) where
    pub fitting_end : p.count ≤ k → true ≡ is_nothing all
    fitting_end h = sym (ap is_nothing (sym v.rest ∙ left_end (misfits p.slot total (contents p s)) p.count k h))

    module _ (w : any_wrong (contents p s) ≡ false) (h : k < p.count) (full l : ℕ) (f : full ≡ min p.slot left) (e : l ≡ length_at s (slot_at p k)) (b : Bool)
        (d : b ≡ (not (eqb l 0) && not (eqb l full))) where
      here : misfits p.slot total (contents p s) k ≡ b
      unfolding misfits
      here =
          let a : length (payload_at (contents p s) k) ≡ l = payload_length_lem p s w k h ∙ sym e in
          let g : min p.slot (total - k * p.slot) ≡ full = ap (min p.slot) (sym v.remains) ∙ sym f in
          ap₂ (λ (x y : ℕ). not (eqb x 0) && not (eqb x y)) a g ∙ sym d

      pub fitting_not : b ≡ true → false ≡ is_nothing all
      fitting_not t =
          sym (ap is_nothing (sym v.rest ∙ left_here (misfits p.slot total (contents p s)) p.count k h (here ∙ t)))

      pub fitting_next : b ≡ false → Fitting p s total (left - full) (k + 1)
      fitting_next t =
          let m : (k + 1) * p.slot ≡ k * p.slot + p.slot = ap (λ (x : ℕ). x * p.slot) (let z : k + 1 ≡ suc k = omega arith in z) ∙ suc-mul k p.slot in
          record {
            remains = omega (arith, v.remains);
            rest = sym (left-next (misfits p.slot total (contents p s)) p.count k h (here ∙ t)) ∙ v.rest;
          }

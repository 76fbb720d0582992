-- A row gathered column by column (`Stands`, `Taken`, specs/InnerRuns.antt): what one column adds, by what its slot holds, and where the next one stands.
-- Assumes nothing.
use mathlib.Core.Path.{◌≡◌, ap, subst, ◌∙◌}
use mathlib.Core.Bool.{Bool, false}
use mathlib.Core.List.{List}
use Prim.Native.Nat.{ℕ, ◌+◌, ◌*◌, ◌/◌, ◌%◌, ◌^◌, ◌≤◌, ◌<◌}
use native.Mathlib.Nat.{le_refl, mul-add, add-mul, mul-le-mul, mod-lt, div-add-mod'}
use native.Mathlib.Omega.{arith}
use lib.ListN.{length, get_or, set}
use Rattle.places.specs.declared.Place.{Place}
use Rattle.places.specs.Places.{end_of, in_rows}
use Rattle.losses.specs.InnerRuns.{byte_in, gone_in, Tabled, Held, One, Gathered, Behind, Alone, Stands, Taken}
use Rattle.losses.proofs.Noting.{told_came}
use Rattle.losses.proofs.Walking.{next-times, part-more, part_zero}
use Rattle.losses.proofs.Gathering.{gathered-few}
use Rattle.losses.proofs.Payloads.{byte_came, byte-none, gone-empty, gone_not, held-inside}

-- ---- one column

-- the one column from c up to c + 1
only : (c x : ℕ) → c ≤ x → x < c + 1 → x ≡ c
only c x h l = omega arith

module _ {p : Place} {s : List ℕ} {first k b c lost : ℕ} {row at : List ℕ} (v : Stands p s first k b c lost row at) {n : ℕ} (held : Held p s k n) (h : c < 255) where
  from : k * p.slot ≤ first + c * p.rows
  from = omega (arith, v.place)

  before : first + c * p.rows < k * p.slot + p.slot
  before = omega (arith, v.place, v.byte)

  -- its slot has no bytes
  stands_lost : n ≡ 0 → (out : List ℕ) → One c lost at out → Gathered p s first (c + 1) (lost + 1) row out
  stands_lost e out one =
      record {
        within = omega arith;
        part = part_zero v.gathered.part (c + 1) (omega arith)
            (λ x g l. ap (byte_in p s first) (only c x g l) ∙ byte-none held first c from before (omega (arith, from)));
        told = one.told (gone_in p s first) (gone-empty held first c from before e) v.gathered.told;
      }

  came : (n ≡ 0 → ⊥) → (x : ℕ) → c ≤ x → x < c + 1 → gone_in p s first x ≡ false
  came e x g l = ap (gone_in p s first) (only c x g l) ∙ gone_not held first c from before e

  -- it has bytes, and ends before this one
  stands_short : (n ≡ 0 → ⊥) → n ≤ b → Gathered p s first (c + 1) lost row at
  stands_short e l =
      record {
        within = omega arith;
        part = part_zero v.gathered.part (c + 1) (omega arith)
            (λ x g i. ap (byte_in p s first) (only c x g i) ∙ byte-none held first c from before (omega (arith, v.place)));
        told = told_came v.gathered.told (c + 1) (omega arith) (came e);
      }

  -- it has this one
  stands_came : b < n → Gathered p s first (c + 1) lost (set row c (get_or s (p.start + k * (p.slot + 2) + 2 + b) 0)) at
  stands_came l =
      let t : k * (p.slot + 2) ≡ k * p.slot + k * 2 = mul-add k p.slot 2 in
      let e : p.start + 2 * k + 2 + (first + c * p.rows) ≡ p.start + k * (p.slot + 2) + 2 + b = omega (arith, v.place) in
      record {
        within = omega arith;
        part = part-more v.gathered.part h (get_or s (p.start + k * (p.slot + 2) + 2 + b) 0)
            (byte_came held first c from before (omega (arith, v.place)) ∙ ap (λ (i : ℕ). get_or s i 0) e);
        told = told_came v.gathered.told (c + 1) (omega arith) (came (λ z. omega arith));
      }

-- as the code takes it
module _ {p : Place} {s : List ℕ} {k n : ℕ} (held : Held p s k n) (b c lost : ℕ) (row at : List ℕ) (h : c < 255) where
  pub taken-lost : n ≤ 0 → (out : List ℕ) → One c lost at out → Taken p s k b c lost row at (lost + 1) row out
  taken-lost e out one = record { gathered = λ first v. stands_lost v held h (omega arith) out one }

  pub taken-short : 0 < n → n ≤ b → Taken p s k b c lost row at lost row at
  taken-short e l = record { gathered = λ first v. stands_short v held h (λ z. omega arith) l }

  pub taken_came : b < n → Taken p s k b c lost row at lost (set row c (get_or s (p.start + k * (p.slot + 2) + 2 + b) 0)) at
  taken_came l = record { gathered = λ first v. stands_came v held h l }

-- where it is read lies in the store
pub taken-inside : {p : Place} {s : List ℕ} {k n : ℕ} → Held p s k n → (b size : ℕ) → end_of p ≤ size → b < n → p.start + k * (p.slot + 2) + 2 + b < size
taken-inside {p} {s} {k} held b size ends l =
    let t : k * (p.slot + 2) ≡ k * p.slot + k * 2 = mul-add k p.slot 2 in
    omega (arith, held-inside held (λ z. omega arith))

-- ---- column after column

pub stands_first : {p : Place} {s : List ℕ} {first : ℕ} {row at : List ℕ} → 0 < p.slot → Gathered p s first 0 0 row at → Stands p s first (first / p.slot) (first % p.slot) 0 0 row at
stands_first {p} {first = first} some v = record { byte = mod-lt first some; place = omega (arith, div-add-mod' first p.slot); gathered = v }

module _ {p : Place} {s : List ℕ} {first k b c lost : ℕ} {row at : List ℕ} (v : Stands p s first k b c lost row at) where
  -- nothing passes a word
  pub stands_low : 0 < p.slot → p.rows ≤ 255 → first < 2 ^ 46 → k < 2 ^ 48
  stands_low some few low = omega (arith, mul-le-mul (le_refl k) some, v.place, mul-le-mul v.gathered.within few)

  pub stands_next : {more x y : ℕ} {row' at' : List ℕ} → Behind k b (p.rows / p.slot) (p.rows % p.slot) p.slot x y
      → Taken p s k b c lost row at more row' at' → Stands p s first x y (c + 1) more row' at'
  stands_next behind taken =
      record {
        byte = behind.byte;
        place = omega (arith, behind.place, v.place, next-times c p.rows, div-add-mod' p.rows p.slot);
        gathered = taken.gathered first v;
      }

  -- where slots lie evenly below the columns
  pub stands_even : p.rows % p.slot ≡ 0 → {more : ℕ} {row' at' : List ℕ} → Taken p s k b c lost row at more row' at' → Stands p s first (k + p.rows / p.slot) b (c + 1) more row' at'
  stands_even e taken =
      record {
        byte = v.byte;
        place = omega (arith, v.place, next-times c p.rows, div-add-mod' p.rows p.slot, add-mul k (p.rows / p.slot) p.slot);
        gathered = taken.gathered first v;
      }

  -- what taking column c asks
  pub stands-alone : Tabled p (length s) → (rows : Bool) → rows ≡ in_rows p → c < 255 → Alone p (length s) rows c lost row at
  stands-alone tabled rows judged short =
      record {
        ends = tabled.ends;
        judged = judged;
        short = short;
        few = gathered-few v.gathered;
        long = v.gathered.part.sized;
        room = v.gathered.told.sized;
      }

  pub stands_end : 255 ≤ c → Gathered p s first 255 lost row at
  stands_end h =
      let e : c ≡ 255 = omega (arith, v.gathered.within) in
      subst (λ (n : ℕ). Gathered p s first n lost row at) e v.gathered

-- The three passes over the payloads of a place: joining them, laying their rows where they belong, and looking at what the rows hold beyond the file. Each goes
-- by the walk along the slots. Assumes nothing.
use mathlib.Core.Path.{◌≡◌, refl, sym, ap, ap₂, ◌∙◌}
use mathlib.Core.Logic.{⊎_elim}
use mathlib.Core.Bool.{Bool, true, false, true≢false}
use mathlib.Core.List.{List, ◌++◌}
use Prim.Native.Nat.{ℕ, ◌+◌, ◌*◌, ◌-◌, ◌/◌, ◌<◌, ◌≤◌}
use native.Mathlib.Nat.{zero-add}
use native.Mathlib.Omega.{arith}
use lib.ListN.{length, get_or, take, drop}
use lib.Seq.{sets}
use Rattle.ground.specs.Lists.{listed}
use Rattle.ground.proofs.Listed.{listed_same, listed-whole, listed_ext, le_or_lt}
use Rattle.ground.proofs.Writing.{sets-front, Run, run_begin, run_jump, run_end}
use Rattle.layout.specs.Spread.{scattered}
use Rattle.layout.proofs.Scatter.{length-scattered}
use Rattle.places.specs.declared.Place.{Place}
use Rattle.contents.specs.Slots.{length_at}
use Rattle.contents.specs.Contents.{slot_at}
use Rattle.contents.proofs.Bytes.{bytes-part}
use Rattle.handing.specs.Passes.{sent_in, Filled, info_at, info_in, RowsAt, Scatters, Clear, Padding, clear, spoilt, Rowed}
use Rattle.handing.proofs.WalkLaws.{fits-rows, Walk, walk_first, walk_done, Turn, turn}

-- ---- payloads joined: o bytes are written

pub record Joining (p : Place) (s before out : List ℕ) (o k : ℕ) : Type 0 where
  pub walk : Walk p s k o
  pub run : Run (λ i. get_or (sent_in p s) i 0) (length (sent_in p s)) 0 before out o

module _ (p : Place) (s before : List ℕ) where
  pub joining_first : Joining p s before before 0 0
  joining_first = record { walk = walk_first p s; run = run_begin (λ i. get_or (sent_in p s) i 0) (length (sent_in p s)) 0 before }

  module _ (out : List ℕ) (o k : ℕ) (v : Joining p s before out o k) where
    -- the turn at the slot that stands at `at`
    pub joining_turn : (at : ℕ) → at ≡ slot_at p k → Filled p s → k < p.count → (l : ℕ) → l ≡ length_at s at → Turn p s k o l
    joining_turn at stands f h l e = turn p s k o v.walk f h l (e ∙ ap (length_at s) stands)

    pub joining_next : (at : ℕ) → at ≡ slot_at p k → (l : ℕ) → Turn p s k o l → (z : List ℕ) → z ≡ sets out o (take (at + 2 + l - (at + 2)) (drop (at + 2) s))
        → Joining p s before z (o + l) (k + 1)
    joining_next at stands l t z e =
        let d : at + 2 + l - (at + 2) ≡ l = omega arith in
        let bytes : take (at + 2 + l - (at + 2)) (drop (at + 2) s) ≡ listed (λ i. get_or (sent_in p s) i 0) l o =
        ap₂ (λ (x y : ℕ). take x (drop (y + 2) s)) d stands ∙ sym (bytes-part s (slot_at p k + 2) l t.room)
        ∙ listed_same (λ i. get_or s i 0) (λ i. get_or (sent_in p s) i 0) l (slot_at p k + 2) o (λ j h. sym (t.reads j h)) in
        record {
          walk = t.next;
          run = run_jump (λ i. get_or (sent_in p s) i 0) (length (sent_in p s)) 0 before out o v.run l z t.ends
              (e ∙ ap₂ (sets out) (sym (zero-add o)) bytes);
        }

    pub joining_end : p.count ≤ k → length (sent_in p s) ≤ length before → out ≡ sent_in p s ++ drop (length (sent_in p s)) before
    joining_end h l =
        run_end (λ i. get_or (sent_in p s) i 0) (length (sent_in p s)) 0 before out o v.run (omega (arith, walk_done p s k o v.walk h))
        ∙ ap (sets before 0) (listed-whole (sent_in p s) 0) ∙ sets-front before (sent_in p s) l

-- ---- the rows of slot k, q rows before it

module _ (p : Place) (s : List ℕ) (f : Rowed p s) (k q l : ℕ) (w : Walk p s k (q * 255)) (t : Turn p s k (q * 255) l) where
  whole : l / 255 * 255 ≡ l
  whole = fits-rows p l t.fits f.protected f.by_rows

  pub rows_at : p.rows ≤ 255 → RowsAt p.rows (length s) (slot_at p k + 2) (l / 255) q
  rows_at h = record { some = f.least; few = h; inside = omega (arith, t.room, whole); below = omega (arith, t.room, whole, w.short) }

  rows_next : Walk p s (k + 1) ((q + l / 255) * 255)
  rows_next =
      let e : q * 255 + l ≡ (q + l / 255) * 255 = omega (arith, whole) in
      rw e at t.next

  -- byte c of row j of the slot is byte c of row q + j of those sent
  byte_at_lem : (j c : ℕ) → j < l / 255 → c < 239 → get_or (sent_in p s) ((q + j) * 255 + c) 0 ≡ get_or s (slot_at p k + 2 + j * 255 + c) 0
  byte_at_lem j c h b =
      let e : (q + j) * 255 + c ≡ q * 255 + (j * 255 + c) = omega arith in
      let d : slot_at p k + 2 + (j * 255 + c) ≡ slot_at p k + 2 + j * 255 + c = omega arith in
      ap (λ (x : ℕ). get_or (sent_in p s) x 0) e ∙ t.reads (j * 255 + c) (omega (arith, whole)) ∙ ap (λ (x : ℕ). get_or s x 0) d

  info_at_lem : (j : ℕ) → j < l / 255 → info_in (sent_in p s) (q + j) ≡ info_at s (slot_at p k + 2 + j * 255)
  unfolding info_at
  info_at_lem j h =
      listed_ext (λ c. get_or (sent_in p s) ((q + j) * 255 + c) 0) (λ c. get_or s (slot_at p k + 2 + j * 255 + c) 0) 239 0 (λ c a b. byte_at_lem j c h (omega arith))

-- ---- rows laid where they belong: q rows

pub record Laying (p : Place) (s : List ℕ) (n : ℕ) (before out : List ℕ) (q k : ℕ) : Type 0 where
  pub walk : Walk p s k (q * 255)
  pub done : out ≡ scattered p.rows n (info_in (sent_in p s)) q before

-- all rows that were sent
rows_all : (p : Place) (s : List ℕ) (k q : ℕ) → Walk p s k (q * 255) → p.count ≤ k → q ≡ length (sent_in p s) / 255
rows_all p s k q w h = omega (arith, walk_done p s k (q * 255) w h)

module _ (p : Place) (s : List ℕ) (n : ℕ) (before : List ℕ) where
  pub laying_first : Laying p s n before before 0 0
  laying_first = record { walk = walk_first p s; done = refl }

  module _ (out : List ℕ) (q k : ℕ) (v : Laying p s n before out q k) where
    pub laying_long : length out ≡ length before
    laying_long = ap length v.done ∙ length-scattered p.rows n (info_in (sent_in p s)) q before

    pub laying_next : Rowed p s → (l : ℕ) → Turn p s k (q * 255) l → (z : List ℕ) → Scatters p.rows n s (slot_at p k + 2) (l / 255) q out z
        → Laying p s n before z (q + l / 255) (k + 1)
    laying_next f l t z d = record {
      walk = rows_next p s f k q l v.walk t;
      done = d (info_in (sent_in p s)) before (info_at_lem p s f k q l v.walk t) v.done;
    }

    pub laying_end : p.count ≤ k → out ≡ scattered p.rows n (info_in (sent_in p s)) (length (sent_in p s) / 255) before
    laying_end h = v.done ∙ ap (λ (x : ℕ). scattered p.rows n (info_in (sent_in p s)) x before) (rows_all p s k q v.walk h)

-- ---- rows looked at: q rows hold 0 beyond n

pub record Looking (p : Place) (s : List ℕ) (n q k : ℕ) : Type 0 where
  pub walk : Walk p s k (q * 255)
  pub done : Clear p.rows n (sent_in p s) 0 q 0

pub looking_first : (p : Place) (s : List ℕ) (n : ℕ) → Looking p s n 0 0
looking_first p s n = record { walk = walk_first p s; done = λ j h. absurd (omega arith) }

module _ (p : Place) (s : List ℕ) (n q k : ℕ) (v : Looking p s n q k) where
  pub looking_end : p.count ≤ k → Padding p.rows n (sent_in p s) 0 (length (sent_in p s) / 255) 0 true
  looking_end h = clear (λ j b. v.done j (omega (arith, rows_all p s k q v.walk h)))

  module _ (f : Rowed p s) (l : ℕ) (t : Turn p s k (q * 255) l) where
    -- row j of those sent, as row i of the slot
    as_row : (j i : ℕ) → q + i ≡ j → (c : ℕ) → i < l / 255 → c < 239 → get_or s (slot_at p k + 2 + i * 255 + c) 0 ≡ get_or (sent_in p s) (0 + j * 255 + c) 0
    as_row j i e c a b =
        let d : (q + i) * 255 + c ≡ 0 + j * 255 + c = omega arith in
        sym (byte_at_lem p s f k q l v.walk t i c a b) ∙ ap (λ (x : ℕ). get_or (sent_in p s) x 0) d

    pub looking_next : (r : Bool) → r ≡ true → Padding p.rows n s (slot_at p k + 2) (l / 255) q r → Looking p s n (q + l / 255) (k + 1)
    looking_next false a (spoilt i h c b e d) = absurd (true≢false (sym a))
    looking_next true a (clear g) = record {
      walk = rows_next p s f k q l v.walk t;
      done = λ j h c b e. ⊎_elim
          (λ (x : q ≤ j).
          let i : q + (j - q) ≡ j = omega arith in
          let r : 0 + j ≡ q + (j - q) = omega arith in
          sym (as_row j (j - q) i c (omega arith) b) ∙ g (j - q) (omega arith) c b (rw r at e))
          (λ (x : j < q). v.done j x c b e) (le_or_lt q j);
    }

    pub looking_not : (r : Bool) → r ≡ false → Padding p.rows n s (slot_at p k + 2) (l / 255) q r → Padding p.rows n (sent_in p s) 0 (length (sent_in p s) / 255) 0 false
    looking_not true x (clear g) = absurd (true≢false x)
    looking_not false x (spoilt i a c b e d) =
        let r : q + i ≡ 0 + (q + i) = omega arith in
        spoilt (q + i) (omega (arith, t.ends, whole p s f k q l v.walk t)) c b (rw r at e) (λ z. d (as_row (q + i) i refl c a b ∙ z))

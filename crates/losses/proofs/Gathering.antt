-- A row gathered run after run (`Gathered`, specs/InnerRuns.antt): where a run begins, what it adds if its slot is empty and if it is filled, and the whole row.
-- Assumes nothing.
use mathlib.Core.Path.{◌≡◌, refl, sym, ap, subst, ◌∙◌}
use mathlib.Core.Logic.{⊎_elim}
use mathlib.Core.Bool.{Bool, false}
use mathlib.Core.List.{List}
use Prim.Native.Nat.{ℕ, ◌+◌, ◌-◌, ◌*◌, ◌/◌, ◌%◌, ◌^◌, ◌≤◌, ◌<◌}
use Rattle.std.proofs.lemmas.Bool.{cases_lt}
use Rattle.std.proofs.Common.{min}
use native.Mathlib.Nat.{suc-mul, mul-le-mul, mul-le-mul_right, mod-lt, div-add-mod', div-le_self}
use native.Mathlib.Omega.{arith}
use lib.ListN.{length, get_or, replicate}
use lib.Seq.{ext_get_or}
use Rattle.ground.specs.Lists.{listed}
use Rattle.ground.proofs.Listed.{length-listed, get_or-listed_0, zeros_at}
use Rattle.code.specs.Restore.{lost_of}
use Rattle.code.proofs.Lost.{lost-all}
use Rattle.roots.specs.Roots.{passing}
use Rattle.places.specs.declared.Place.{Place}
use Rattle.contents.specs.Contents.{contents}
use Rattle.losses.specs.declared.Came.{Came}
use Rattle.losses.specs.Losses.{came_at, lost_at, sent_at, row_came, lost_in, lost_places, came_by}
use Rattle.losses.specs.InnerRuns.{byte_in, gone_in, Held, Least, Walk, Reached, Copied, Noted, Gathered, Begins, Ended}
use Rattle.losses.proofs.Told.{lost-passing, lost-length, told_at}
use Rattle.losses.proofs.Noting.{told-nothing, told_came}
use Rattle.losses.proofs.Walking.{part_zero}
use Rattle.losses.proofs.Payloads.{byte_came, byte-none, gone-empty, gone_not, held-inside}

-- ---- nothing yet

pub gathered-nothing : (p : Place) (s : List ℕ) (first : ℕ) → Gathered p s first 0 0 (replicate 255 0) (replicate 16 0)
gathered-nothing p s first =
    record {
      within = omega arith;
      part = record { sized = refl; done = λ x h. absurd (omega arith); ahead = λ x h. zeros_at 255 x };
      told = told-nothing (gone_in p s first);
    }

-- no more are lost than there are
pub gathered-few : {p : Place} {s : List ℕ} {first c lost : ℕ} {row at : List ℕ} → Gathered p s first c lost row at → lost ≤ 255
gathered-few {p} {s} {first} {c} v = omega (arith, v.told.count, lost-passing (gone_in p s first) c, lost-all (gone_in p s first) c, v.within)

-- ---- a run

pub least : {a b r : ℕ} → r ≡ min a b → Least a b r
least e = record { left = omega arith; right = omega arith; above = λ z l g. omega arith }

module _ {p : Place} {s : List ℕ} {first k c lost : ℕ} {row at : List ℕ} (b : Begins p s first k c lost row at) where
  apart : k * p.slot + (first + c * p.rows) % p.slot ≡ first + c * p.rows
  apart = ap (λ (x : ℕ). x * p.slot + (first + c * p.rows) % p.slot) b.slot ∙ div-add-mod' (first + c * p.rows) p.slot

  pub begins_from : k * p.slot ≤ first + c * p.rows
  begins_from = omega (arith, apart)

  begins-before : first + c * p.rows < k * p.slot + p.slot
  begins-before = omega (arith, apart, mod-lt (first + c * p.rows) b.tabled.slot)

  below_last : first + c * p.rows < first + 255 * p.rows
  below_last = omega (arith, mul-le-mul_right p.rows b.short, suc-mul c p.rows, b.tabled.rows)

  -- later columns stand behind its first
  later : (x : ℕ) → c ≤ x → k * p.slot ≤ first + x * p.rows
  later x h = omega (arith, begins_from, mul-le-mul_right p.rows h)

  module _ (few : p.rows ≤ 255) where
    -- nothing passes a word
    pub begins-low : k * p.slot ≤ 2 ^ 48
    begins-low = let l : c ≤ 255 = omega (arith, b.short) in omega (arith, begins_from, mul-le-mul l few, b.low)

    pub begins_walk : (end : ℕ) → end ≤ first + 255 * p.rows → Walk first p.rows end c
    begins_walk end l = record { some = b.tabled.rows; few = few; low = b.low; column = omega (arith, b.short); last = l }

  module _ {n end : ℕ} (held : Held p s k n) (least : Least (k * p.slot + p.slot) (first + 255 * p.rows) end) where
    -- it has one column at least
    more : (r : ℕ) → end ≤ first + r * p.rows → c < r
    more r h =
        ⊎_elim (λ (l : c < r). l)
        (λ (l : r ≤ c). absurd (omega (arith, mul-le-mul_right p.rows l, least.above (first + c * p.rows) begins-before below_last)))
        (cases_lt c r)

    -- and its columns stand in slot k
    stand : {d r : ℕ} → Reached first p.rows end d r → (x : ℕ) → d ≤ x → x < r → first + x * p.rows < k * p.slot + p.slot
    stand reached x h l = omega (arith, reached.before x h l, least.left)

    -- its slot has no bytes: its columns are lost
    pub run-lost : n ≡ 0 → (r : ℕ) (out : List ℕ) → Noted first p.rows end c lost at r out → Ended p s first c r (lost + (r - c)) row out
    run-lost e r out noted =
        record {
          on = more r noted.reached.behind;
          gathered = record {
            within = noted.reached.within;
            part = part_zero b.gathered.part r noted.reached.on
                (λ x h l. byte-none held first x (later x h) (stand noted.reached x h l) (omega (arith, later x h)));
            told = noted.told (gone_in p s first) (λ x h l. gone-empty held first x (later x h) (stand noted.reached x h l) e) b.gathered.told;
          };
        }

    -- its slot has bytes: those that stand before its end are copied, the others are 0
    pub run_came : (n ≡ 0 → ⊥) → {stop : ℕ} → Least (k * p.slot + n) (first + 255 * p.rows) stop
        → (d : ℕ) (out : List ℕ) → Copied first p.rows (p.start + 2 * k + 2) stop s c row d out → (r : ℕ) → Reached first p.rows end d r → Ended p s first c r lost out at
    run_came e {stop} short d out copied r reached =
        record {
          on = more r reached.behind;
          gathered = record {
            within = reached.within;
            part = part_zero (copied.part (byte_in p s first) copies b.gathered.part) r reached.on zeros;
            told = told_came b.gathered.told r (omega (arith, copied.reached.on, reached.on)) came;
          };
        }
      where
        inside : (x : ℕ) → c ≤ x → x < d → first + x * p.rows < k * p.slot + n
        inside x h l = omega (arith, copied.reached.before x h l, short.left)

        copies : (x : ℕ) → c ≤ x → x < d → byte_in p s first x ≡ get_or s (p.start + 2 * k + 2 + (first + x * p.rows)) 0
        copies x h l = byte_came held first x (later x h) (omega (arith, inside x h l, held.fits)) (inside x h l)

        zeros : (x : ℕ) → d ≤ x → x < r → byte_in p s first x ≡ 0
        zeros x h l =
            let y : ℕ = first + x * p.rows in
            let a : stop ≤ y = omega (arith, copied.reached.behind, mul-le-mul_right p.rows h) in
            let z : y < first + 255 * p.rows = omega (arith, reached.before x h l, least.right) in
            byte-none held first x (later x (omega (arith, copied.reached.on))) (stand reached x h l)
            (⊎_elim (λ (i : y < k * p.slot + n). absurd (omega (arith, short.above y i z))) (λ (i : k * p.slot + n ≤ y). i) (cases_lt y (k * p.slot + n)))

        came : (x : ℕ) → c ≤ x → x < r → gone_in p s first x ≡ false
        came x h l =
            ⊎_elim
            (λ (i : x < d). gone_not held first x (later x h) (omega (arith, inside x h i, held.fits)) e)
            (λ (i : d ≤ x). gone_not held first x (later x h) (stand reached x i l) e)
            (cases_lt x d)

    -- where it is copied from lies in the store
    pub run_inside : (n ≡ 0 → ⊥) → {stop : ℕ} → Least (k * p.slot + n) (first + 255 * p.rows) stop → p.start + 2 * k + 2 + stop ≤ length s
    run_inside e short = omega (arith, held-inside held e, short.left, b.tabled.ends)

-- ---- run after run

-- the columns before c are gathered; k is a number by which the next slot may be known
pub record Onward (p : Place) (s : List ℕ) (first c lost k : ℕ) (row at : List ℕ) : Type 0 where
  pub gathered : Gathered p s first c lost row at
  pub slot : k < 2 ^ 47

pub onward_first : {p : Place} {s : List ℕ} {first : ℕ} {row at : List ℕ} → Gathered p s first 0 0 row at → Onward p s first 0 0 0 row at
onward_first v = record { gathered = v; slot = omega arith }

module _ {p : Place} {s : List ℕ} {first c lost k : ℕ} {row at : List ℕ} (v : Onward p s first c lost k row at) where
  pub onward_times : p.rows ≤ 255 → c * p.rows ≤ 65025
  onward_times few = omega (arith, mul-le-mul v.gathered.within few)

  module _ (few : p.rows ≤ 255) (low : first < 2 ^ 46) (j : ℕ) (e : j ≡ (first + c * p.rows) / p.slot) where
    pub onward_slot : j + 1 < 2 ^ 47
    onward_slot = omega (arith, div-le_self (first + c * p.rows) p.slot, onward_times few)

    pub onward_next : {r l : ℕ} {row' at' : List ℕ} → Ended p s first c r l row' at' → Onward p s first r l (j + 1) row' at'
    onward_next x = record { gathered = x.gathered; slot = onward_slot }

  pub onward_end : 255 ≤ c → Gathered p s first 255 lost row at
  onward_end h =
      let e : c ≡ 255 = omega (arith, v.gathered.within) in
      subst (λ (n : ℕ). Gathered p s first n lost row at) e v.gathered

-- ---- the whole row

listed_is : (f : ℕ → ℕ) (n : ℕ) (l : List ℕ) → length l ≡ n → ((k : ℕ) → k < n → get_or l k 0 ≡ f k) → l ≡ listed f n 0
listed_is f n l e h =
    ext_get_or 0 l (listed f n 0) (e ∙ sym (length-listed f n 0)) (λ i b. h i (omega arith) ∙ sym (get_or-listed_0 f n i 0 (omega arith)))

-- where a column stands, by the row's number and by where column 0 stands
column-at : (m q k first : ℕ) → first ≡ q / m * (255 * m) + q % m → first + k * m ≡ sent_at m q k
column-at m q k first e = omega (arith, e)

module _ {p : Place} {s : List ℕ} {first lost : ℕ} {row at : List ℕ} (q : ℕ) (e : first ≡ q / p.rows * (255 * p.rows) + q % p.rows) (v : Gathered p s first 255 lost row at) where
  gone_is : gone_in p s first ≡ lost_in p.rows p.slot (contents p s) q
  gone_is i k = lost_at p.slot (contents p s) (column-at p.rows q k first e i)

  row_is : row ≡ row_came p.rows p.slot (contents p s) q
  unfolding row_came
  row_is =
      listed_is (λ k. came_at p.slot (contents p s) (sent_at p.rows q k)) 255 row v.part.sized
      (λ k h. v.part.done k h ∙ ap (came_at p.slot (contents p s)) (column-at p.rows q k first e))

  places_are : at ≡ lost_places (gone_in p s first)
  unfolding lost_places
  places_are = listed_is (told_at (passing (gone_in p s first) 255 0)) 16 at v.told.sized v.told.entry

  pub gathered_came : ◌≡◌ {A = Came} (record { row = row; lost = lost; at = at }) (came_by (lost_in p.rows p.slot (contents p s) q) (row_came p.rows p.slot (contents p s) q))
  unfolding came_by
  gathered_came i =
      record {
        row = row_is i;
        lost = (v.told.count ∙ sym (lost-length (gone_in p s first)) ∙ ap (λ (g : ℕ → Bool). lost_of g 255) gone_is) i;
        at = (places_are ∙ ap lost_places gone_is) i;
      }

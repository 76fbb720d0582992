-- A walk along the columns of a row, m bytes apart, up to a byte (`Walk`, `Reached`, specs/InnerRuns.antt): what the three loops over a run share, and what each leaves.
-- Assumes nothing.
use mathlib.Core.Path.{◌≡◌, sym, ap, subst, ◌∙◌}
use mathlib.Core.Logic.{⊎_elim}
use mathlib.Core.Bool.{Bool, true}
use mathlib.Core.List.{List}
use Prim.Native.Nat.{ℕ, ◌+◌, ◌-◌, ◌*◌, ◌≤◌, ◌<◌}
use native.Mathlib.Nat.{mul-le-mul, mul-le-mul_right, add-mul, one-mul}
use native.Mathlib.Omega.{arith}
use lib.ListN.{length, get_or, set, length-set}
use lib.Seq.{get_or-set_same, get_or-set_other}
use Rattle.std.proofs.lemmas.Bool.{cases_lt, cases_eq}
use Rattle.ground.specs.Lists.{ceil}
use Rattle.ground.proofs.Listed.{ceil_upper, ceil-below}
use Rattle.losses.specs.InnerRuns.{Part, Told, Walk, Reached, Copied, One, Noted}

pub next-times : (x m : ℕ) → (x + 1) * m ≡ x * m + m
next-times x m = add-mul x 1 m ∙ ap (λ (y : ℕ). x * m + y) (one-mul m)

-- ---- the walk

-- it has come to column x
pub record Going (first m end c x : ℕ) : Type 0 where
  pub within : x ≤ 255
  pub before : (y : ℕ) → c ≤ y → y < x → first + y * m < end

module _ {first m end c : ℕ} (w : Walk first m end c) where
  pub going_first : Going first m end c c
  going_first = record { within = w.column; before = λ y a b. absurd (omega arith) }

  module _ {x : ℕ} (v : Going first m end c x) (on : c ≤ x) where
    -- nothing passes a word
    pub walk_times : x * m ≤ 65025
    walk_times = omega (arith, mul-le-mul v.within w.few)

    pub going_end : end ≤ first + x * m → Reached first m end c x
    going_end h = record { on = on; within = v.within; before = v.before; behind = h }

    pub going_below : first + x * m < end → x < 255
    going_below h =
        ⊎_elim (λ (l : x < 255). l)
        (λ (l : 255 ≤ x). let t : 255 * m ≤ x * m = mul-le-mul_right m l in absurd (omega (arith, w.last)))
        (cases_lt x 255)

    pub going_next : x < 255 → first + x * m < end → Going first m end c (x + 1)
    going_next l h =
        record {
          within = omega arith;
          before = λ y a b. ⊎_elim
              (λ (e : y ≡ x). rw e h)
              (λ (d : y ≡ x → ⊥). v.before y a (let l : y < x = ⊎_elim (λ (k : y < x). k) (λ (k : x ≤ y). absurd (d (omega arith))) (cases_lt y x) in l))
              (cases_eq y x);
        }

-- ---- columns that are passed over

module _ {first m end c : ℕ} (w : Walk first m end c) where
  pub passed-none : end ≤ first + c * m → Reached first m end c c
  passed-none h = record { on = omega arith; within = w.column; before = λ y a b. absurd (omega arith); behind = h }

  pub passed : first + c * m < end → (r : ℕ) → r ≡ ceil (end - first) m → Reached first m end c r
  passed h r e =
      let u : end - first ≤ r * m = rw e (ceil_upper (end - first) m w.some) in
      let below : (x : ℕ) → x < r → x * m < end - first = λ x l. ceil-below (end - first) m x w.some (rw (← e) l) in
      record {
        on = ⊎_elim (λ (l : r < c). let t : r * m ≤ c * m = mul-le-mul_right m (omega arith) in absurd (omega arith)) (λ (l : c ≤ r). l) (cases_lt r c);
        within = ⊎_elim (λ (l : 255 < r). absurd (omega (arith, below 255 l, w.last))) (λ (l : r ≤ 255). l) (cases_lt 255 r);
        before = λ x a l. omega (arith, below x l);
        behind = omega arith;
      }

-- ---- bytes of a row

pub part-more : {f : ℕ → ℕ} {row : List ℕ} {c : ℕ} → Part f row c → c < 255 → (b : ℕ) → f c ≡ b → Part f (set row c b) (c + 1)
part-more {f} {row} {c} was h b e =
    record {
      sized = length-set row c b ∙ was.sized;
      done = λ x l. ⊎_elim
          (λ (z : x ≡ c). ap (λ (i : ℕ). get_or (set row c b) i 0) z ∙ get_or-set_same row c b 0 (omega (arith, was.sized)) ∙ sym (ap f z ∙ e))
          (λ (z : x ≡ c → ⊥). get_or-set_other row c x b 0 z ∙ ⊎_elim (λ (k : x < c). was.done x k) (λ (k : c ≤ x). absurd (z (omega arith))) (cases_lt x c))
          (cases_eq x c);
      ahead = λ x l. get_or-set_other row c x b 0 (λ z. let y : x ≡ c = z in omega arith) ∙ was.ahead x (omega arith);
    }

-- columns whose byte is 0
pub part_zero : {f : ℕ → ℕ} {row : List ℕ} {c : ℕ} → Part f row c → (r : ℕ) → c ≤ r → ((x : ℕ) → c ≤ x → x < r → f x ≡ 0) → Part f row r
part_zero {f} {row} {c} was r l z =
    record {
      sized = was.sized;
      done = λ x h. ⊎_elim (λ (k : x < c). was.done x k) (λ (k : c ≤ x). was.ahead x k ∙ sym (z x k h)) (cases_lt x c);
      ahead = λ x h. was.ahead x (omega arith);
    }

-- ---- the loop that copies

pub record Copying (first m d end : ℕ) (s : List ℕ) (c : ℕ) (row₀ row : List ℕ) (x : ℕ) : Type 0 where
  pub going : Going first m end c x
  pub sized : length row ≡ 255
  pub part : (f : ℕ → ℕ) → ((y : ℕ) → c ≤ y → y < x → f y ≡ get_or s (d + (first + y * m)) 0) → Part f row₀ c → Part f row x

module _ {first m d end c : ℕ} {s row₀ : List ℕ} (w : Walk first m end c) where
  pub copying_first : length row₀ ≡ 255 → Copying first m d end s c row₀ row₀ c
  copying_first l = record { going = going_first w; sized = l; part = λ f e was. was }

  module _ {row : List ℕ} {x : ℕ} (v : Copying first m d end s c row₀ row x) (on : c ≤ x) where
    pub copying_next : x < 255 → first + x * m < end → Copying first m d end s c row₀ (set row x (get_or s (d + (first + x * m)) 0)) (x + 1)
    copying_next l h =
        record {
          going = going_next w v.going on l h;
          sized = length-set row x (get_or s (d + (first + x * m)) 0) ∙ v.sized;
          part = λ f e was.
              part-more (v.part f (λ y a b. e y a (omega arith)) was) l (get_or s (d + (first + x * m)) 0) (e x on (omega arith));
        }

    pub copying_end : end ≤ first + x * m → Copied first m d end s c row₀ x row
    copying_end h = record { sized = v.sized; reached = going_end w v.going on h; part = v.part }

-- ---- the loop that notes

pub record NotingRun (first m end c lost : ℕ) (at₀ at : List ℕ) (x : ℕ) : Type 0 where
  pub going : Going first m end c x
  pub sized : length at ≡ 16
  pub told : (g : ℕ → Bool) → ((y : ℕ) → c ≤ y → y < x → g y ≡ true) → Told g c lost at₀ → Told g x (lost + (x - c)) at

module _ {first m end c lost : ℕ} {at₀ : List ℕ} (w : Walk first m end c) where
  pub noting_first : length at₀ ≡ 16 → NotingRun first m end c lost at₀ at₀ c
  noting_first l =
      record { going = going_first w; sized = l; told = λ g e was. let n : lost ≡ lost + (c - c) = omega arith in subst (λ (n : ℕ). Told g c n at₀) n was }

  module _ {at : List ℕ} {x : ℕ} (v : NotingRun first m end c lost at₀ at x) (on : c ≤ x) where
    pub noting_next : x < 255 → first + x * m < end → (out : List ℕ) → One x (lost + (x - c)) at out → NotingRun first m end c lost at₀ out (x + 1)
    noting_next l h out one =
        record {
          going = going_next w v.going on l h;
          sized = one.sized;
          told = λ g e was.
              let n : lost + (x - c) + 1 ≡ lost + (x + 1 - c) = omega arith in
              subst (λ (n : ℕ). Told g (x + 1) n out) n (one.told g (e x on (omega arith)) (v.told g (λ y a b. e y a (omega arith)) was));
        }

    pub noting_end : end ≤ first + x * m → Noted first m end c lost at₀ x at
    noting_end h = record { sized = v.sized; reached = going_end w v.going on h; told = v.told }

-- Bytes that are 0: a list of them, the loop that looks for another, and the bytes of a row that stand beyond the file's end.
-- Assumes nothing.
use mathlib.Core.Path.{◌≡◌, refl, sym, ap, ◌∙◌}
use mathlib.Core.Logic.{⊎_elim}
use mathlib.Core.Bool.{Bool, true, false, cond, ◌&&◌}
use mathlib.Core.List.{List, [], ◌∷◌}
use Prim.Native.Nat.{ℕ, zero, suc, ◌+◌, ◌-◌, ◌*◌, ◌<◌, ◌≤◌}
use native.Mathlib.Omega.{arith}
use borrow.Author.Tests.{eq-eqb, eqb-true, eqb-false, lt-ltb, le-ltb}
use lib.Dec.{eqb, ltb}
use lib.ListN.{length, get_or, take, drop}
use Rattle.std.proofs.lemmas.Bool.{cases_lt}
use Rattle.std.specs.List.{list_all}
use Rattle.ground.proofs.Listed.{length-listed, get_or-listed, get_or-listed_0}
use Rattle.ground.proofs.Truth.{differ}
use Rattle.layout.specs.Spread.{row_start}
use Rattle.contents.specs.Contents.{bytes_at}
use Rattle.contents.proofs.Bytes.{length-bytes, bytes-part}
use Rattle.columns.specs.Handing.{all_zero}
use Rattle.columns.specs.InnerJudge.{beyond_in}
use Rattle.layout.specs.Spread.{Columns}

-- two tests that pass together
pub both_ways : (a b : Bool) → (a ≡ true → b ≡ true) → (b ≡ true → a ≡ true) → a ≡ b
both_ways true b f g = sym (f refl)
both_ways false true f g = g refl
both_ways false false f g = refl

-- ---- a list

pub zero_all : (l : List ℕ) → all_zero l ≡ true → (i : ℕ) → get_or l i 0 ≡ 0
zero_all [] e i = refl
zero_all (x ∷ l) e i = by (zero_all l) (eqb x 0) refl e i
  where
    by : (all_zero l ≡ true → (i : ℕ) → get_or l i 0 ≡ 0) → (b : Bool) → eqb x 0 ≡ b → (b && all_zero l) ≡ true → (i : ℕ) → get_or (x ∷ l) i 0 ≡ 0
    by later true t e zero = eqb-true x 0 t
    by later true t e (suc i) = later e i
    by later false t e i = differ (sym e)

pub all_zero_lem : (l : List ℕ) → ((i : ℕ) → i < length l → get_or l i 0 ≡ 0) → all_zero l ≡ true
all_zero_lem [] h = refl
all_zero_lem (x ∷ l) h = rw (eq-eqb x 0 (h 0 (omega arith))) (all_zero_lem l (λ i k. h (suc i) (omega arith)))

pub one_not : (l : List ℕ) (i : ℕ) → (get_or l i 0 ≡ 0 → ⊥) → all_zero l ≡ false
one_not l i h = by (all_zero l) refl
  where
    by : (b : Bool) → all_zero l ≡ b → b ≡ false
    by true e = absurd (h (zero_all l e i))
    by false e = refl

-- where it lies
pub record Another (l : List ℕ) : Type 0 where
  pub number : ℕ
  pub below : number < length l
  pub other : get_or l number 0 ≡ 0 → ⊥

pub not_zero : (l : List ℕ) → all_zero l ≡ false → Another l
not_zero [] e = differ e
not_zero (x ∷ l) e = by (not_zero l) (eqb x 0) refl e
  where
    by : (all_zero l ≡ false → Another l) → (b : Bool) → eqb x 0 ≡ b → (b && all_zero l) ≡ false → Another (x ∷ l)
    by later true t e = let a = later e in record { number = suc a.number; below = omega (arith, a.below); other = a.other }
    by later false t e = record { number = 0; below = omega arith; other = eqb-false x 0 t }

-- ---- the bytes from from to to, as `all` looks at them

all_same : (l : List ℕ) → list_all (λ x. eqb x 0) l ≡ all_zero l
all_same [] = refl
all_same (x ∷ l) = ap (λ (b : Bool). eqb x 0 && b) (all_same l)

pub zero_at : (s : List ℕ) (from to : ℕ) → from ≤ to → to ≤ length s → list_all (λ x. eqb x 0) (take (to - from) (drop from s)) ≡ all_zero (bytes_at s from (to - from))
zero_at s from to h l = all_same (take (to - from) (drop from s)) ∙ ap all_zero (sym (bytes-part s from (to - from) (omega arith)))

-- ---- the bytes of row q beyond n bytes of the file

module _ (m n q : ℕ) (row : List ℕ) where
  length-beyond : length (beyond_in m n q row) ≡ 239
  unfolding beyond_in
  length-beyond = length-listed (λ k. cond (ltb (row_start m q + k * m) n) 0 (get_or row k 0)) 239 0

  beyond-at : (k : ℕ) → k < 239 → get_or (beyond_in m n q row) k 0 ≡ cond (ltb (row_start m q + k * m) n) 0 (get_or row k 0)
  unfolding beyond_in
  beyond-at k h = get_or-listed_0 (λ k. cond (ltb (row_start m q + k * m) n) 0 (get_or row k 0)) 239 k 0 h

  beyond-before : (k : ℕ) → k < 239 → row_start m q + k * m < n → get_or (beyond_in m n q row) k 0 ≡ 0
  beyond-before k h l = beyond-at k h ∙ ap (λ (b : Bool). cond b 0 (get_or row k 0)) (lt-ltb (row_start m q + k * m) n l)

  beyond-behind : (k : ℕ) → k < 239 → n ≤ row_start m q + k * m → get_or (beyond_in m n q row) k 0 ≡ get_or row k 0
  beyond-behind k h l = beyond-at k h ∙ ap (λ (b : Bool). cond b 0 (get_or row k 0)) (le-ltb (row_start m q + k * m) n l)

  -- they are 0 exactly if each is
  pub beyond_each : all_zero (beyond_in m n q row) ≡ true → (k : ℕ) → k < 239 → n ≤ row_start m q + k * m → get_or row k 0 ≡ 0
  beyond_each e k h l = sym (beyond-behind k h l) ∙ zero_all (beyond_in m n q row) e k

  pub each_beyond : ((k : ℕ) → k < 239 → n ≤ row_start m q + k * m → get_or row k 0 ≡ 0) → all_zero (beyond_in m n q row) ≡ true
  each_beyond all =
      all_zero_lem (beyond_in m n q row) (λ k l.
      let h : k < 239 = omega (arith, length-beyond) in
      ⊎_elim (λ (b : row_start m q + k * m < n). beyond-before k h b) (λ (b : n ≤ row_start m q + k * m). beyond-behind k h b ∙ all k h b)
      (cases_lt (row_start m q + k * m) n))

  module _ (from : ℕ) (c : Columns m n (row_start m q) from) where
    -- no column stands there
    pub beyond-none : from ≡ 239 → true ≡ all_zero (beyond_in m n q row)
    beyond-none e = sym (each_beyond (λ k h l. absurd (omega (arith, c.inside k (omega arith)))))

    -- or those from a column on
    pub beyond_from : all_zero (bytes_at row from (239 - from)) ≡ all_zero (beyond_in m n q row)
    beyond_from =
        both_ways (all_zero (bytes_at row from (239 - from))) (all_zero (beyond_in m n q row))
        (λ e. each_beyond (λ k h l.
        ⊎_elim (λ (b : k < from). absurd (omega (arith, c.inside k b)))
        (λ (b : from ≤ k).
        let z : from + (k - from) ≡ k = omega arith in
        ap (λ (x : ℕ). get_or row x 0) (sym z) ∙ sym (get_or-listed (λ i. get_or row i 0) (239 - from) from (k - from) 0 (omega arith))
        ∙ zero_all (bytes_at row from (239 - from)) e (k - from)) (cases_lt k from)))
        (λ e. all_zero_lem (bytes_at row from (239 - from)) (λ i l.
        let h : i < 239 - from = omega (arith, length-bytes row from (239 - from)) in
        get_or-listed (λ i. get_or row i 0) (239 - from) from i 0 h
        ∙ beyond_each e (from + i) (omega arith) (c.outside (from + i) (omega arith) (omega arith))))

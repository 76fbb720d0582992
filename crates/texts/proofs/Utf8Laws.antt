-- The laws behind `well_formed`: each row of the table as a range of first bytes, and one byte taken from what is awaited.
-- Assumes nothing.
use mathlib.Core.Path.{◌≡◌, refl, sym, ap, ◌∙◌}
use mathlib.Core.Bool.{Bool, true, false, cond, ◌&&◌, and-false}
use mathlib.Core.List.{List, [], ◌∷◌}
use Prim.Native.Nat.{ℕ, zero, suc, ◌+◌, ◌-◌, ◌<◌, ◌≤◌}
use native.Mathlib.Numerals.{add-one}
use native.Mathlib.Omega.{arith}
use borrow.Author.Tests.{le-leb, lt-leb}
use lib.Dec.{leb, eqb, eqb-suc-zero}
use lib.ListN.{length, get_or, drop, drop_of_length-le}
use lib.Seq.{drop-cons}
use Rattle.ground.specs.Ranges.{between}
use Rattle.texts.specs.Utf8.{Range, range, is_in, First, follow, wrong, later, first_of, behind, formed_from, well_formed}
use Rattle.texts.specs.Inner.{never, wanted, asked, pending, after}

-- ---- ranges
module _ (b low high : ℕ) where
  inside : low ≤ b → b ≤ high → between low high b ≡ true
  inside l h = rw (le-leb low b l, le-leb b high h)

  below : b < low → between low high b ≡ false
  below l = rw (lt-leb low b l)

  above : high < b → between low high b ≡ false
  above h = rw (lt-leb b high h) (and-false (leb low b))

-- ---- what a first byte asks for, row by row
module _ (b : ℕ) where
  pub row_ascii : b < 0x80 → [] ≡ asked b
  unfolding asked first_of
  row_ascii h = rw (inside b 0x00 0x7F (omega arith) (omega arith))

  pub row_inner : 0x80 ≤ b → b < 0xC2 → never ≡ asked b
  unfolding asked first_of
  row_inner l h =
      rw (
        above b 0x00 0x7F (omega arith),
        below b 0xC2 0xDF (omega arith),
        below b 0xE0 0xE0 (omega arith),
        below b 0xE1 0xEC (omega arith),
        below b 0xED 0xED (omega arith),
        below b 0xEE 0xEF (omega arith),
        below b 0xF0 0xF0 (omega arith),
        below b 0xF1 0xF3 (omega arith),
        below b 0xF4 0xF4 (omega arith),
      )

  pub row-two : 0xC2 ≤ b → b < 0xE0 → range 0x80 0xBF ∷ [] ≡ asked b
  unfolding asked first_of
  row-two l h = rw (above b 0x00 0x7F (omega arith), inside b 0xC2 0xDF (omega arith) (omega arith))

  -- three bytes and more
  module _ (e : 0xE0 ≤ b) where
    past_two : (f : First) → cond (is_in (range 0x00 0x7F) b) (follow []) (cond (is_in (range 0xC2 0xDF) b) (follow (range 0x80 0xBF ∷ [])) f) ≡ f
    past_two f = rw (above b 0x00 0x7F (omega arith), above b 0xC2 0xDF (omega arith))

    pub row_e0 : b < 0xE1 → range 0xA0 0xBF ∷ later ∷ [] ≡ asked b
    unfolding asked first_of
    row_e0 h = rw (past_two, inside b 0xE0 0xE0 (omega arith) (omega arith))

    pub row_e1 : 0xE1 ≤ b → b < 0xED → range 0x80 0xBF ∷ later ∷ [] ≡ asked b
    unfolding asked first_of
    row_e1 l h = rw (past_two, above b 0xE0 0xE0 (omega arith), inside b 0xE1 0xEC (omega arith) (omega arith))

    pub row_ed : 0xED ≤ b → b < 0xEE → range 0x80 0x9F ∷ later ∷ [] ≡ asked b
    unfolding asked first_of
    row_ed l h = rw (past_two, above b 0xE0 0xE0 (omega arith), above b 0xE1 0xEC (omega arith), inside b 0xED 0xED (omega arith) (omega arith))

    pub row_ee : 0xEE ≤ b → b < 0xF0 → range 0x80 0xBF ∷ later ∷ [] ≡ asked b
    unfolding asked first_of
    row_ee l h =
        rw (
          past_two,
          above b 0xE0 0xE0 (omega arith),
          above b 0xE1 0xEC (omega arith),
          above b 0xED 0xED (omega arith),
          inside b 0xEE 0xEF (omega arith) (omega arith),
        )

  -- four bytes, or none
  module _ (f : 0xF0 ≤ b) where
    past_three : (w x y z g : First)
        → cond (is_in (range 0xE0 0xE0) b) w (cond (is_in (range 0xE1 0xEC) b) x (cond (is_in (range 0xED 0xED) b) y (cond (is_in (range 0xEE 0xEF) b) z g))) ≡ g
    past_three w x y z g =
        rw (above b 0xE0 0xE0 (omega arith), above b 0xE1 0xEC (omega arith), above b 0xED 0xED (omega arith), above b 0xEE 0xEF (omega arith))

    pub row_f0 : b < 0xF1 → range 0x90 0xBF ∷ later ∷ later ∷ [] ≡ asked b
    unfolding asked first_of
    row_f0 h = let e : 0xE0 ≤ b = omega arith in rw (past_two e, past_three, inside b 0xF0 0xF0 (omega arith) (omega arith))

    pub row_f1 : 0xF1 ≤ b → b < 0xF4 → range 0x80 0xBF ∷ later ∷ later ∷ [] ≡ asked b
    unfolding asked first_of
    row_f1 l h =
        let e : 0xE0 ≤ b = omega arith in
        rw (past_two e, past_three, above b 0xF0 0xF0 (omega arith), inside b 0xF1 0xF3 (omega arith) (omega arith))

    pub row_f4 : 0xF4 ≤ b → b < 0xF5 → range 0x80 0x8F ∷ later ∷ later ∷ [] ≡ asked b
    unfolding asked first_of
    row_f4 l h =
        let e : 0xE0 ≤ b = omega arith in
        rw (past_two e, past_three, above b 0xF0 0xF0 (omega arith), above b 0xF1 0xF3 (omega arith), inside b 0xF4 0xF4 (omega arith) (omega arith))

    pub row-none : 0xF5 ≤ b → never ≡ asked b
    unfolding asked first_of
    row-none l =
        let e : 0xE0 ≤ b = omega arith in
        rw (past_two e, past_three, above b 0xF0 0xF0 (omega arith), above b 0xF1 0xF3 (omega arith), above b 0xF4 0xF4 (omega arith))

-- ---- one byte more, of those that are awaited
pub step-first : (m l h b : ℕ) → m ≡ 0 → asked b ≡ after (pending m l h) b
step-first zero l h b z = refl
step-first (suc m) l h b z = absurd (omega arith)

module _ (l h b : ℕ) where
  step-out : (m : ℕ) → (m ≡ 0 → ⊥) → between l h b ≡ false → never ≡ after (pending m l h) b
  step-out zero n e = absurd (n refl)
  step-out (suc m) n e = rw e

  pub step-below : (m : ℕ) → (m ≡ 0 → ⊥) → b < l → never ≡ after (pending m l h) b
  step-below m n o = step-out m n (below b l h o)

  pub step-above : (m : ℕ) → (m ≡ 0 → ⊥) → h < b → never ≡ after (pending m l h) b
  step-above m n o = step-out m n (above b l h o)

  pub step_in : (m : ℕ) → (m ≡ 0 → ⊥) → l ≤ b → b ≤ h → pending (m - 1) 0x80 0xBF ≡ after (pending m l h) b
  step_in zero n l₁ h₁ = absurd (n refl)
  step_in (suc zero) n l₁ h₁ = rw (inside b l h l₁ h₁)
  step_in (suc (suc m)) n l₁ h₁ = let e : suc (suc m) - 1 ≡ suc m = omega arith in rw (e, inside b l h l₁ h₁)

-- behind a wrong byte nothing is well formed
none : (b : ℕ) → between 1 0 b ≡ false
none zero = below 0 1 0 (omega arith)
none (suc b) = above (suc b) 1 0 (omega arith)

never-formed : (s : List ℕ) → false ≡ formed_from s never
never-formed [] = refl
never-formed (b ∷ s) = rw (none b)

wanted-formed : (s : List ℕ) (f : First) → behind f (λ rs. formed_from s rs) ≡ formed_from s (wanted f)
wanted-formed s (follow rs) = refl
wanted-formed s wrong = never-formed s

after-formed : (s : List ℕ) (rs : List Range) (b : ℕ) → formed_from (b ∷ s) rs ≡ formed_from s (after rs b)
unfolding asked
after-formed s [] b = wanted-formed s (first_of b)
after-formed s (r ∷ rs) b = by (is_in r b)
  where
    by : (t : Bool) → (t && formed_from s rs) ≡ formed_from s (cond t rs never)
    by true = refl
    by false = never-formed s

all_come : (m l h : ℕ) → eqb m 0 ≡ formed_from [] (pending m l h)
all_come zero l h = refl
all_come (suc m) l h = eqb-suc-zero m

-- ---- the loop: what is left, behind what is awaited, is well formed as all is
pub record Reading (s : List ℕ) (m l h i : ℕ) : Type 0 where
  pub rest : formed_from (drop i s) (pending m l h) ≡ well_formed s

pub reading_begin : (s : List ℕ) → Reading s 0 0 0 0
reading_begin s = record { rest = refl }

module _ (s : List ℕ) (m l h i : ℕ) (c : Reading s m l h i) where
  pub reading_more : (m₁ l₁ h₁ : ℕ) → i < length s → pending m₁ l₁ h₁ ≡ after (pending m l h) (get_or s i 0) → Reading s m₁ l₁ h₁ (i + 1)
  reading_more m₁ l₁ h₁ o e =
      let b : ℕ = get_or s i 0 in
      let one : drop i s ≡ b ∷ drop (i + 1) s = drop-cons s i 0 o ∙ ap (λ (k : ℕ). b ∷ drop k s) (sym (add-one i)) in
      record {
        rest =
            ap (λ (rs : List Range). formed_from (drop (i + 1) s) rs) e ∙ sym (after-formed (drop (i + 1) s) (pending m l h) b)
            ∙ ap (λ (k : List ℕ). formed_from k (pending m l h)) (sym one) ∙ c.rest;
      }

  pub reading_end : length s ≤ i → eqb m 0 ≡ well_formed s
  reading_end o = all_come m l h ∙ ap (λ (k : List ℕ). formed_from k (pending m l h)) (sym (drop_of_length-le s o)) ∙ c.rest

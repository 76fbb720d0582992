-- The loop that finds the lines: one step (`step_line`), and the invariant `Splitting`, that what was found stands before what is still found.
-- Assumes nothing.
use mathlib.Core.Path.{◌≡◌, refl, sym, ap, ap₂, ◌∙◌}
use mathlib.Core.Bool.{Bool, true, false, cond, ◌&&◌}
use mathlib.Core.List.{List, [], ◌∷◌, ◌++◌, append_assoc, append-nil}
use Prim.Native.Nat.{ℕ, zero, suc, ◌+◌, ◌-◌, ◌<◌, ◌≤◌, min}
use native.Mathlib.Nat.{min-le_right}
use native.Mathlib.Omega.{arith}
use borrow.Author.Tests.{ltb-true}
use lib.Dec.{eqb, leb, ltb}
use lib.ListN.{length, get_or, set, take, drop, replicate, length-set, length-drop, length-take, length-append}
use Rattle.slices.specs.Slices.{same}
use Rattle.slices.proofs.SameLaws.{same_equal}
use Rattle.texts.specs.Breaks.{CR, until_lf}
use Rattle.attributes.specs.declared.Part.{Part}
use Rattle.attributes.specs.Lines.{label, is_line, without_cr, value_at, behind_line, Found, alone, before, lines_from, lines_of}
use Rattle.attributes.specs.Describe.{nowhere}
use Rattle.description.specs.Inner.{Ending, Stepped, Parted, Within, Split}

-- ---- one line

pub not_labelled : (t : List ℕ) (k at : ℕ) → same (take 3 (drop at t)) (label k) ≡ false → is_line t k at ≡ false
not_labelled t k at e = ap (λ (c : Bool). c && ltb (until_lf (drop (at + 3) t)) (length (drop (at + 3) t))) e

-- three bytes are there
pub label-fits : (t : List ℕ) (k at : ℕ) → at ≤ length t → same (take 3 (drop at t)) (label k) ≡ true → at + 3 ≤ length t
label-fits t k at h e =
    let three : length (take 3 (drop at t)) ≡ 3 = ap length (same_equal (take 3 (drop at t)) (label k) e) in
    let few : length (take 3 (drop at t)) ≡ min 3 (length (drop at t)) = length-take 3 (drop at t) in
    omega (arith, min-le_right 3 (length (drop at t)), length-drop at t)

without-most : (s : List ℕ) (n : ℕ) → without_cr s n ≤ n
without-most s n = by (leb 1 n && eqb (get_or s (n - 1) 0) CR)
  where
    by : (c : Bool) → cond c (n - 1) n ≤ n
    by true = omega arith
    by false = omega arith

module _ (t : List ℕ) (k at : ℕ) (l : same (take 3 (drop at t)) (label k) ≡ true) where
  pub not_ended : ltb (until_lf (drop (at + 3) t)) (length (drop (at + 3) t)) ≡ false → is_line t k at ≡ false
  not_ended e = ap₂ ◌&&◌ l e

  pub step_line : at + 3 ≤ length t → (n b : ℕ) → Ending (drop (at + 3) t) b n → Stepped t k at (record { at = at + 3; length = n }) (at + 3 + b + 1)
  unfolding value_at
  step_line h n b e =
      let u = ltb-true (until_lf (drop (at + 3) t)) (length (drop (at + 3) t)) e.found in
      let w = without-most (drop (at + 3) t) (until_lf (drop (at + 3) t)) in
      let d = length-drop (at + 3) t in
      let f = e.front in
      let v = e.value in
      record {
        line = ap₂ ◌&&◌ l e.found;
        value = ap (λ (x : ℕ). record { at = at + 3; length = x }) e.value;
        behind = ap (λ (y : ℕ). at + 3 + y + 1) e.front;
        fits = omega arith;
        far = omega arith;
      }

-- ---- lists that grow by one entry

-- the next entry of the parts is set as a part is added
pub grown : (l ps : List Part) (p : Part) → length ps < length l → Parted l ps → Parted (set l (length ps) p) (ps ++ (p ∷ []))
grown [] ps p h e i = absurd (omega arith)
grown (x ∷ l) [] p h e zero = refl
grown (x ∷ l) [] p h e (suc i) = e (suc i)
grown (x ∷ l) (q ∷ ps) p h e zero = e 0
grown (x ∷ l) (q ∷ ps) p h e (suc i) = grown l ps p (omega arith) (λ j. e (suc j)) i

set-within : (l : List Part) (k : ℕ) (p : Part) (n : ℕ) → p.at + p.length ≤ n → Within l n → Within (set l k p) n
set-within [] k p n f w i = w i
set-within (q ∷ l) zero p n f w zero = f
set-within (q ∷ l) zero p n f w (suc i) = w (suc i)
set-within (q ∷ l) (suc k) p n f w zero = w 0
set-within (q ∷ l) (suc k) p n f w (suc i) = set-within l k p n f (λ j. w (suc j)) i

-- ---- the loop

-- what was found before
abbrev onto : List Part → Found → Found
onto ps g = record { parts = ps ++ g.parts; next = g.next }

pub record Splitting (t : List ℕ) (parts : List Part) (k at : ℕ) : Type 0 where
  pub most : k ≤ 15
  pub far : at ≤ length t
  pub long : length parts ≡ 15
  pub found : List Part
  pub count : length found ≡ k
  pub parted : Parted parts found
  pub within : Within parts (length t)
  pub rest : lines_of t ≡ onto found (lines_from t (suc k) (15 - k) at)

nowhere_at : (n i : ℕ) → get_or (replicate n nowhere) i nowhere ≡ nowhere
nowhere_at zero i = refl
nowhere_at (suc n) zero = refl
nowhere_at (suc n) (suc i) = nowhere_at n i

pub splitting_begin : (t : List ℕ) → Splitting t (replicate 15 nowhere) 0 0
unfolding lines_of
splitting_begin t = record {
  most = omega arith;
  far = omega arith;
  long = refl;
  found = [];
  count = refl;
  parted = nowhere_at 15;
  within = λ i. let z = ap (λ (p : Part). p.at + p.length) (nowhere_at 15 i) in omega arith;
  rest = refl;
}

module _ (t : List ℕ) (parts : List Part) (k at : ℕ) (s : Splitting t parts k at) where
  -- nothing more is found
  ended : lines_from t (suc k) (15 - k) at ≡ alone at → Split t parts k at
  ended e =
      let all : lines_of t ≡ record { parts = s.found; next = at }
      = s.rest ∙ ap (onto s.found) e ∙ (λ i. record { parts = append-nil s.found i; next = at }) in
      let ps : s.found ≡ (lines_of t).parts = ap (λ (f : Found). f.parts) (sym all) in
      record {
        parted = rw ps at s.parted;
        within = s.within;
        counted = sym s.count ∙ ap length ps;
        ended = ap (λ (f : Found). f.next) (sym all);
      }

  -- no line is missing
  pub splitting_end : 15 ≤ k → Split t parts k at
  splitting_end h =
      let z : 15 - k ≡ 0 = omega arith in
      ended (ap (λ (n : ℕ). lines_from t (suc k) n at) z)

  module _ (h : k < 15) where
    one_more : 15 - k ≡ suc (15 - (k + 1))
    one_more = omega arith

    here : k + 1 ≡ suc k
    here = omega arith

    -- a line is missing
    pub splitting_stop : is_line t (k + 1) at ≡ false → Split t parts k at
    splitting_stop e =
        ended (ap (λ (m : ℕ). lines_from t (suc k) m at) one_more
        ∙ ap (λ (c : Bool). cond c (before (value_at t at) (lines_from t (suc (suc k)) (15 - (k + 1)) (behind_line t at))) (alone at))
        (ap (λ (m : ℕ). is_line t m at) (sym here) ∙ e))

    -- one line more
    pub splitting_more : (p : Part) (next : ℕ) → Stepped t (k + 1) at p next → Splitting t (set parts k p) (k + 1) next
    splitting_more p next e =
        record {
          most = omega arith;
          far = e.far;
          long = length-set parts k p ∙ s.long;
          found = s.found ++ (p ∷ []);
          count = length-append s.found (p ∷ []) ∙ ap (λ (x : ℕ). x + 1) s.count;
          parted = rw s.count at (grown parts s.found p (omega (arith, s.long, s.count)) s.parted);
          within = set-within parts k p (length t) e.fits s.within;
          rest = s.rest ∙ ap (λ (x : ℕ). onto s.found (lines_from t (suc k) x at)) one_more
              ∙ ap (λ (c : Bool). onto s.found (cond c (before (value_at t at) (more (suc (suc k)) (behind_line t at))) (alone at)))
              (ap (λ (x : ℕ). is_line t x at) (sym here) ∙ e.line)
              ∙ ap (λ (q : Part). onto s.found (before q (more (suc (suc k)) (behind_line t at)))) (sym e.value)
              ∙ ap₂ (λ (x z : ℕ). onto s.found (before p (more (suc x) z))) (sym here) (sym e.behind)
              ∙ ap (λ (x : List Part). record { parts = x; next = (more (suc (k + 1)) next).next }) (sym (append_assoc s.found (p ∷ []) (more (suc (k + 1)) next).parts));
        }
      where
        more : ℕ → ℕ → Found
        more j x = lines_from t j (15 - (k + 1)) x

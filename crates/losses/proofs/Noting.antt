-- Columns told as lost, one after the other (`Told`, specs/InnerRuns.antt): none yet, one more, columns that came, and all 255.
-- Assumes nothing.
use mathlib.Core.Path.{◌≡◌, refl, sym, ap, ◌∙◌}
use mathlib.Core.Logic.{⊎_elim}
use mathlib.Core.Bool.{Bool, true, false}
use mathlib.Core.List.{List, [], ◌∷◌, ◌++◌, append-nil}
use Prim.Native.Nat.{ℕ, ◌+◌, ◌-◌, ◌≤◌, ◌<◌, zero-le}
use native.Mathlib.Nat.{zero-add}
use native.Mathlib.Numerals.{add-one}
use native.Mathlib.Omega.{arith}
use lib.ListN.{length, get_or, set, replicate, length-set, length-append, get_or-replicate, get_or-append}
use lib.Seq.{get_or-set_same, get_or-set_other, get_or-append_seam}
use Rattle.std.proofs.lemmas.Bool.{cases_lt, cases_eq}
use Rattle.roots.specs.Roots.{passing}
use Rattle.roots.proofs.Passing.{single, passing-more, passing-append, passing-none}
use Rattle.losses.specs.InnerRuns.{Told, One}
use Rattle.losses.proofs.Told.{told_at, told-within, told-beyond}

pub told-nothing : (g : ℕ → Bool) → Told g 0 0 (replicate 16 0)
unfolding passing
told-nothing g = record { sized = refl; count = refl; entry = λ k h. get_or-replicate 16 k 0 0 h ∙ sym (told-beyond [] k zero-le) }

-- a column that is lost stands behind those before it
passing-lost : (g : ℕ → Bool) (c : ℕ) → g c ≡ true → passing g (c + 1) 0 ≡ passing g c 0 ++ (c ∷ [])
passing-lost g c t =
    ap (λ (n : ℕ). passing g n 0) (add-one c) ∙ passing-more g c 0
    ∙ ap (λ (k : ℕ). passing g c 0 ++ single (g k) k) (zero-add c) ∙ ap (λ (b : Bool). passing g c 0 ++ single b c) t

module _ {g : ℕ → Bool} {c lost : ℕ} {at : List ℕ} (was : Told g c lost at) where
  longer : length (passing g c 0 ++ (c ∷ [])) ≡ lost + 1
  longer = length-append (passing g c 0) (c ∷ []) ∙ omega (arith, was.count)

  earlier : (k : ℕ) → k < lost → told_at (passing g c 0) k ≡ told_at (passing g c 0 ++ (c ∷ [])) k
  earlier k h =
      told-within (passing g c 0) k (omega (arith, was.count))
      ∙ ap (λ (x : ℕ). 254 - x) (sym (get_or-append (passing g c 0) (c ∷ []) 0 k (omega (arith, was.count))))
      ∙ sym (told-within (passing g c 0 ++ (c ∷ [])) k (omega (arith, longer)))

  this : (k : ℕ) → k ≡ lost → 254 - c ≡ told_at (passing g c 0 ++ (c ∷ [])) k
  this k e =
      ap (λ (x : ℕ). 254 - x) (sym (ap (λ (i : ℕ). get_or (passing g c 0 ++ (c ∷ [])) i 0) (e ∙ was.count) ∙ get_or-append_seam (passing g c 0) c [] 0))
      ∙ sym (told-within (passing g c 0 ++ (c ∷ [])) k (omega (arith, longer)))

  later : (k : ℕ) → lost < k → told_at (passing g c 0) k ≡ told_at (passing g c 0 ++ (c ∷ [])) k
  later k h =
      told-beyond (passing g c 0) k (omega (arith, was.count)) ∙ sym (told-beyond (passing g c 0 ++ (c ∷ [])) k (omega (arith, longer)))

  module _ (t : g c ≡ true) where
    made : (out : List ℕ) → length out ≡ 16 → ((k : ℕ) → k < 16 → get_or out k 0 ≡ told_at (passing g c 0 ++ (c ∷ [])) k) → Told g (c + 1) (lost + 1) out
    made out l e =
        record {
          sized = l;
          count = sym (ap length (passing-lost g c t) ∙ longer);
          entry = λ k h. e k h ∙ ap (λ (p : List ℕ). told_at p k) (sym (passing-lost g c t));
        }

    -- sixteen are told already
    pub told-full : 16 ≤ lost → Told g (c + 1) (lost + 1) at
    told-full f = made at was.sized (λ k h. was.entry k h ∙ earlier k (omega arith))

    pub told_more : lost < 16 → Told g (c + 1) (lost + 1) (set at lost (254 - c))
    told_more f =
        made (set at lost (254 - c)) (length-set at lost (254 - c) ∙ was.sized)
        (λ k h. ⊎_elim
        (λ (e : k ≡ lost). ap (λ (i : ℕ). get_or (set at lost (254 - c)) i 0) e ∙ get_or-set_same at lost (254 - c) 0 (omega (arith, was.sized)) ∙ this k e)
        (λ (d : k ≡ lost → ⊥). get_or-set_other at lost k (254 - c) 0 d ∙ was.entry k h
        ∙ ⊎_elim (λ (b : k < lost). earlier k b) (λ (b : lost ≤ k). later k (omega arith)) (cases_lt k lost))
        (cases_eq k lost))

  -- columns that came
  pub told_came : (r : ℕ) → c ≤ r → ((x : ℕ) → c ≤ x → x < r → g x ≡ false) → Told g r lost at
  told_came r l none =
      let n : c + (r - c) ≡ r = omega arith in
      let z : 0 + c ≡ c = zero-add c in
      let e : passing g r 0 ≡ passing g c 0 =
      ap (λ (i : ℕ). passing g i 0) (sym n) ∙ passing-append g c (r - c) 0
      ∙ ap (λ (i : ℕ). passing g c 0 ++ passing g (r - c) i) z
      ∙ ap (λ (p : List ℕ). passing g c 0 ++ p) (passing-none g (r - c) c (λ x a b. none x a (omega arith)))
      ∙ append-nil (passing g c 0) in
      record { sized = was.sized; count = was.count ∙ ap length (sym e); entry = λ k h. was.entry k h ∙ ap (λ (p : List ℕ). told_at p k) (sym e) }

-- as the code notes one
module _ (c lost : ℕ) (at : List ℕ) (sized : length at ≡ 16) where
  pub one_full : 16 ≤ lost → One c lost at at
  one_full h = record { sized = sized; told = λ g t was. told-full was t h }

  pub one_more : lost < 16 → One c lost at (set at lost (254 - c))
  one_more h = record { sized = length-set at lost (254 - c) ∙ sized; told = λ g t was. told_more was t h }

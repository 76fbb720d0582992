-- The steps of the loop that writes the digits of a number, the last one first.
-- Assumes nothing.
use mathlib.Core.Path.{◌≡◌, refl, sym, ap, ◌∙◌}
use mathlib.Core.Logic.{◌⊎◌, inl, inr}
use mathlib.Core.List.{List, [], ◌∷◌, ◌++◌}
use Prim.Native.Nat.{ℕ, zero, suc, ◌+◌, ◌-◌, ◌/◌, ◌%◌, ◌≤◌, ◌<◌}
use native.Mathlib.Nat.{zero-add, zero-sub, sub-zero, suc-sub-suc}
use native.Mathlib.Omega.{arith}
use lib.ListN.{length, set, drop, replicate, length-append}
use lib.Seq.{sets, set_comm}
use Rattle.std.proofs.lemmas.Bool.{cases_lt}
use Rattle.ground.proofs.Writing.{sets-append, sets-front}
use Rattle.decimal.specs.Decimal.{digits_by, digits}
use Rattle.decimal.proofs.DigitLaws.{by_one, by_more, digits_long}

-- a store behind a run of them may come first
set_first : (s l : List ℕ) (at p x : ℕ) → at + length s ≤ p → set (sets l at s) p x ≡ sets (set l p x) at s
set_first [] l at p x h = refl
set_first (y ∷ s) l at p x h =
    set_first s (set l at y) (suc at) p x (omega arith) ∙ ap (λ (z : List ℕ). sets z (suc at) s) (set_comm l at p y x (λ e. omega arith))

sets_last : (l s : List ℕ) (x : ℕ) → sets l 0 (s ++ (x ∷ [])) ≡ sets (set l (length s) x) 0 s
sets_last l s x =
    sets-append l 0 s (x ∷ []) ∙ ap (λ (p : ℕ). set (sets l 0 s) p x) (zero-add (length s)) ∙ set_first s l 0 (length s) x (omega arith)

drop_zeros : (m n : ℕ) → drop m (replicate {A = ℕ} n 0) ≡ replicate (n - m) 0
drop_zeros zero n = ap (λ (k : ℕ). replicate k 0) (sym (sub-zero n))
drop_zeros (suc m) zero = ap (λ (k : ℕ). replicate k 0) (sym (zero-sub (suc m)))
drop_zeros (suc m) (suc n) = drop_zeros m n ∙ ap (λ (k : ℕ). replicate k 0) (sym (suc-sub-suc n m))

-- ---- writing: what is left to write, the i digits of what is left of the number, makes what all the digits make
pub record Writing (n : ℕ) (bytes : List ℕ) (rest i : ℕ) : Type 0 where
  pub within : i ≤ 8
  pub k : ℕ
  pub left : length (digits_by k rest) ≡ i
  pub whole : sets bytes 0 (digits_by k rest) ≡ digits n ++ replicate (8 - length (digits n)) 0

pub writing_begin : (n i : ℕ) (bytes : List ℕ) → i ≡ length (digits n) → bytes ≡ replicate 8 0 → Writing n bytes n i
unfolding digits
writing_begin n i bytes e b =
    let m : length (digits n) ≤ 8 = digits_long n in
    let z : length bytes ≡ 8 = ap length b in
    record {
      within = omega arith;
      k = 8;
      left = sym e;
      whole = sets-front bytes (digits n) (omega arith)
          ∙ ap (λ (s : List ℕ). digits n ++ s) (ap (drop (length (digits n))) b ∙ drop_zeros (length (digits n)) 8);
    }

module _ (n : ℕ) (bytes : List ℕ) (rest i : ℕ) (w : Writing n bytes rest i) where
  pub writing_end : i ≤ 0 → bytes ≡ digits n ++ replicate (8 - length (digits n)) 0
  writing_end h = by (digits_by w.k rest) (let l = w.left in omega arith) w.whole
    where
      by : (s : List ℕ) → length s ≡ 0 → sets bytes 0 s ≡ digits n ++ replicate (8 - length (digits n)) 0 → bytes ≡ digits n ++ replicate (8 - length (digits n)) 0
      by [] l e = e
      by (x ∷ s) l e = absurd (omega arith)

  -- the last of the digits that are left is written; those of k₂ are left
  one_less : (k₂ : ℕ) → digits_by w.k rest ≡ digits_by k₂ (rest / 10) ++ ((rest % 10 + 48) ∷ []) → Writing n (set bytes (i - 1) (rest % 10 + 48)) (rest / 10) (i - 1)
  one_less k₂ e =
      let s : List ℕ = digits_by k₂ (rest / 10) in
      let b = w.within in
      let l : length s ≡ i - 1 = omega (arith, ap length e, length-append s ((rest % 10 + 48) ∷ []), w.left) in
      record {
        within = omega arith;
        k = k₂;
        left = l;
        whole = ap (λ (p : ℕ). sets (set bytes p (rest % 10 + 48)) 0 s) (sym l) ∙ sym (sets_last bytes s (rest % 10 + 48)) ∙ sym (ap (sets bytes 0) e)
            ∙ w.whole;
      }

  pub writing_more : 0 < i → Writing n (set bytes (i - 1) (rest % 10 + 48)) (rest / 10) (i - 1)
  writing_more h = by w.k refl (cases_lt rest 10)
    where
      by : (k : ℕ) → w.k ≡ k → (rest < 10) ⊎ (10 ≤ rest) → Writing n (set bytes (i - 1) (rest % 10 + 48)) (rest / 10) (i - 1)
      by zero e o = absurd (omega (arith, w.left, ap (λ (k : ℕ). length (digits_by k rest)) e))
      by (suc k) e (inl s) =
          let m : rest + 48 ≡ rest % 10 + 48 = omega arith in
          one_less 0 (ap (λ (x : ℕ). digits_by x rest) e ∙ by_one k rest s ∙ ap (λ (x : ℕ). x ∷ []) m)
      by (suc k) e (inr s) = one_less k (ap (λ (x : ℕ). digits_by x rest) e ∙ by_more k rest s)

-- The first sixteen of a list that grows at its end.
-- Assumes nothing.
use mathlib.Core.Path.{◌≡◌, refl, sym, ap, subst, ◌∙◌}
use mathlib.Core.Logic.{⊎_elim}
use mathlib.Core.Bool.{Bool, true, false, cond, ◌&&◌}
use mathlib.Core.List.{List, [], ◌∷◌, ◌++◌, append_assoc, append-nil}
use Prim.Native.Nat.{ℕ, ◌+◌, ◌-◌, ◌≤◌, ◌<◌}
use native.Mathlib.Numerals.{add-one}
use native.Mathlib.Omega.{arith}
use borrow.Author.Tests.{eqb-true, eqb-false, ltb-true, ltb-false}
use lib.Dec.{eqb, ltb}
use lib.ListN.{length, get_or, take, set, length-set, length-append, replicate, get_or-replicate, get_or-append, get_or-eq_default}
use lib.Seq.{take_all, take-append-le, length-take-le, get_or-append_seam, get_or-set_same, get_or-set_other}
use Rattle.std.proofs.lemmas.Bool.{cases_lt, cases_eq}
use Rattle.roots.specs.Roots.{passing}
use Rattle.words.specs.Words.{byte_at}
use Rattle.roots.specs.InnerWords.{Held}
use Rattle.roots.proofs.Passing.{single, passing-more, passing-none}

pub held-nothing : (at : List ℕ) → at ≡ replicate 16 0 → Held [] 0 at
held-nothing at e =
    record { sized = ap length e; count = refl; entry = λ k h. ap (λ (l : List ℕ). get_or l k 0) e ∙ get_or-replicate 16 k 0 0 h }

module _ {l : List ℕ} {n : ℕ} {at : List ℕ} (was : Held l n at) where
  -- one that does not pass
  pub held_same : (b : Bool) (e : ℕ) → b ≡ false → Held (l ++ single b e) n at
  held_same b e q = rw q (rw (append-nil l) was)

  -- sixteen are held already
  pub held-full : (b : Bool) (e : ℕ) → 16 ≤ n → Held (l ++ single b e) n at
  held-full b e h =
      let c : length (take 16 l) ≡ n = sym was.count in
      let long : 16 ≤ length l = ⊎_elim (λ (s : length l < 16). absurd (omega (arith, ap length (take_all 16 l (omega arith))))) (λ (s : 16 ≤ length l). s) (cases_lt (length l) 16) in
      record {
        sized = was.sized;
        count = was.count ∙ ap length (sym (take-append-le 16 l (single b e) long));
        entry = λ k m. was.entry k m ∙ sym (get_or-append l (single b e) 0 k (omega arith));
      }

  -- one more
  pub held_more : (b : Bool) (e : ℕ) → b ≡ true → n < 16 → Held (l ++ single b e) (n + 1) (set at n e)
  held_more b e q h =
      let c : length (take 16 l) ≡ n = sym was.count in
      let few : length l < 16 = ⊎_elim (λ (s : length l < 16). s) (λ (s : 16 ≤ length l). absurd (omega (arith, length-take-le 16 l s))) (cases_lt (length l) 16) in
      let size : length at ≡ 16 = was.sized in
      let m : length l ≡ n = ap length (sym (take_all 16 l (omega arith))) ∙ c in
      let long : length (l ++ (e ∷ [])) ≡ n + 1 = length-append l (e ∷ []) ∙ omega arith in
      rw q
      (record {
        sized = length-set at n e ∙ size;
        count = sym (ap length (take_all 16 (l ++ (e ∷ [])) (omega arith)) ∙ long);
        entry = λ k j. ⊎_elim
            (λ (z : k ≡ n). ap (λ (x : ℕ). get_or (set at n e) x 0) z ∙ get_or-set_same at n e 0 (omega arith)
            ∙ sym (ap (λ (x : ℕ). get_or (l ++ (e ∷ [])) x 0) (z ∙ sym m) ∙ get_or-append_seam l e [] 0))
            (λ (z : k ≡ n → ⊥). get_or-set_other at n k e 0 z ∙ was.entry k j ∙ other k z m long)
            (cases_eq k n);
      })
    where
      other : (k : ℕ) → (k ≡ n → ⊥) → length l ≡ n → length (l ++ (e ∷ [])) ≡ n + 1 → get_or l k 0 ≡ get_or (l ++ (e ∷ [])) k 0
      other k z m long = ⊎_elim
          (λ (s : k < n). sym (get_or-append l (e ∷ []) 0 k (omega arith)))
          (λ (s : n ≤ k).
          let d : k < n + 1 → ⊥ = λ b. z (omega arith) in
          get_or-eq_default l 0 {n = k} (omega arith) ∙ sym (get_or-eq_default (l ++ (e ∷ [])) 0 {n = k} (omega arith)))
          (cases_lt k n)

-- the tests, as the code makes them
pub differs : (x y e : ℕ) → (x ≡ y → ⊥) → (eqb x y && ltb e 255) ≡ false
differs x y e n = go (eqb x y) refl
  where
    go : (b : Bool) → eqb x y ≡ b → (b && ltb e 255) ≡ false
    go true q = absurd (n (eqb-true x y q))
    go false q = refl

pub beyond : (x y e : ℕ) → 255 ≤ e → (eqb x y && ltb e 255) ≡ false
beyond x y e h = go (ltb e 255) refl
  where
    neither : (b : Bool) → (b && false) ≡ false
    neither true = refl
    neither false = refl

    go : (b : Bool) → ltb e 255 ≡ b → (eqb x y && b) ≡ false
    go true q = absurd (omega (arith, ltb-true e 255 q))
    go false q = neither (eqb x y)

pub passes : (x y e : ℕ) → x ≡ y → e < 255 → (eqb x y && ltb e 255) ≡ true
passes x y e p h = go (eqb x y) (ltb e 255) refl refl
  where
    go : (a b : Bool) → eqb x y ≡ a → ltb e 255 ≡ b → (a && b) ≡ true
    go true true q r = refl
    go true false q r = absurd (omega (arith, ltb-false e 255 r))
    go false b q r = absurd (eqb-false x y q p)

-- the exponents e + 1 to e + k have been looked at
pub record Looking (w y e n₀ : ℕ) (at₀ : List ℕ) (n : ℕ) (at : List ℕ) (k : ℕ) : Type 0 where
  pub sized : length at ≡ 16
  pub held : (l : List ℕ) (f : ℕ → Bool) → ((j : ℕ) → j < 8 → f (e + 1 + j) ≡ (eqb (byte_at w j) y && ltb (e + 1 + j) 255)) → Held l n₀ at₀ → Held (l ++ passing f k (e + 1)) n at

pub looking_start : (w y e n : ℕ) (at : List ℕ) → length at ≡ 16 → Looking w y e n at n at 0
unfolding passing
looking_start w y e n at long = record { sized = long; held = λ l f q h. rw (append-nil l) h }

pub looking_more : {w y e n₀ : ℕ} {at₀ : List ℕ} {n : ℕ} {at : List ℕ} {k : ℕ} → Looking w y e n₀ at₀ n at k → k < 8 → (x : ℕ) → x ≡ byte_at w k
    → (m : ℕ) (next : List ℕ) → length next ≡ 16
    → ((l : List ℕ) → Held l n at → Held (l ++ cond (eqb x y && ltb (e + 1 + k) 255) ((e + 1 + k) ∷ []) []) m next)
    → Looking w y e n₀ at₀ m next (k + 1)
looking_more {w} {y} {e} {n₀} {at₀} {n} {at} {k} was h x q m next long step =
    record {
      sized = long;
      held = λ l f a b.
          let s : single (f (e + 1 + k)) (e + 1 + k) ≡ single (eqb x y && ltb (e + 1 + k) 255) (e + 1 + k) =
          ap (λ (t : Bool). single t (e + 1 + k)) (a k h ∙ ap (λ (z : ℕ). eqb z y && ltb (e + 1 + k) 255) (sym q)) in
          subst (λ (r : List ℕ). Held r m next)
          (append_assoc l (passing f k (e + 1)) (single (eqb x y && ltb (e + 1 + k) 255) (e + 1 + k))
          ∙ ap (λ (r : List ℕ). l ++ r)
          (ap (λ (r : List ℕ). passing f k (e + 1) ++ r) (sym s) ∙ sym (ap (λ (i : ℕ). passing f i (e + 1)) (add-one k) ∙ passing-more f k (e + 1))))
          (step (l ++ passing f k (e + 1)) (was.held l f a b));
    }

pub looking_end : {w y e n₀ : ℕ} {at₀ : List ℕ} {n : ℕ} {at : List ℕ} {k : ℕ} → Looking w y e n₀ at₀ n at k → k ≡ 8
    → (l : List ℕ) (f : ℕ → Bool) → ((j : ℕ) → j < 8 → f (e + 1 + j) ≡ (eqb (byte_at w j) y && ltb (e + 1 + j) 255)) → Held l n₀ at₀
    → Held (l ++ passing f 8 (e + 1)) n at
looking_end {w} {y} {e} {n₀} {at₀} {n} {at} {k} was i l f a b =
    rw i at (was.held l f a b)

-- none of the eight bytes is y
pub looking_none : (w y e n : ℕ) (at : List ℕ) → ((k : ℕ) → k < 8 → byte_at w k ≡ y → ⊥)
    → (l : List ℕ) (f : ℕ → Bool) → ((j : ℕ) → j < 8 → f (e + 1 + j) ≡ (eqb (byte_at w j) y && ltb (e + 1 + j) 255)) → Held l n at
    → Held (l ++ passing f 8 (e + 1)) n at
looking_none w y e n at none l f a h = rw (passing-none f 8 (e + 1) fails) (rw (append-nil l) h)
  where
    fails : (k : ℕ) → e + 1 ≤ k → k < e + 1 + 8 → f k ≡ false
    fails k b c =
        let j : ℕ = k - (e + 1) in
        let q : e + 1 + j ≡ k = omega arith in
        let i : j < 8 = omega arith in
        ap f (sym q) ∙ a j i ∙ differs (byte_at w j) y (e + 1 + j) (none j i)

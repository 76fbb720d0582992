-- The numbers that pass a test, in increasing order: one more at the end, and tests that agree.
-- Assumes nothing.
use mathlib.Core.Path.{◌≡◌, refl, ap, ap₂, ◌∙◌}
use mathlib.Core.Bool.{Bool, true, false, cond}
use mathlib.Core.List.{List, [], ◌∷◌, ◌++◌}
use Prim.Native.Nat.{ℕ, zero, suc, ◌+◌, ◌≤◌, ◌<◌}
use native.Mathlib.Nat.{add-zero, le_refl}
use native.Mathlib.Omega.{arith}
use Rattle.roots.specs.Roots.{passing}

-- e, if it passes
abbrev pub single : Bool → ℕ → List ℕ
single b e = cond b (e ∷ []) []

pub passing-more : (f : ℕ → Bool) (n e : ℕ) → passing f (suc n) e ≡ passing f n e ++ single (f (e + n)) (e + n)
unfolding passing
passing-more f zero e = rw add-zero refl
passing-more f (suc n) e =
    let i : suc e + n ≡ e + suc n = omega arith in
    at (f e) (passing-more f n (suc e) ∙ ap (λ (k : ℕ). passing f n (suc e) ++ single (f k) k) i)
  where
    at : (b : Bool) → passing f (suc n) (suc e) ≡ passing f n (suc e) ++ single (f (e + suc n)) (e + suc n)
        → cond b (e ∷ passing f (suc n) (suc e)) (passing f (suc n) (suc e)) ≡ cond b (e ∷ passing f n (suc e)) (passing f n (suc e)) ++ single (f (e + suc n)) (e + suc n)
    at true q = ap (λ (l : List ℕ). e ∷ l) q
    at false q = q

pub passing-append : (f : ℕ → Bool) (m n e : ℕ) → passing f (m + n) e ≡ passing f m e ++ passing f n (e + m)
unfolding passing
passing-append f zero n e = rw (zero-add n, add-zero e) refl
  where
    zero-add : (k : ℕ) → 0 + k ≡ k
    zero-add k = omega arith
passing-append f (suc m) n e =
    let i : suc m + n ≡ suc (m + n) = omega arith in
    let j : suc e + m ≡ e + suc m = omega arith in
    ap (λ (k : ℕ). passing f k e) i ∙ at (f e) (passing-append f m n (suc e) ∙ ap (λ (k : ℕ). passing f m (suc e) ++ passing f n k) j)
  where
    at : (b : Bool) → passing f (m + n) (suc e) ≡ passing f m (suc e) ++ passing f n (e + suc m)
        → cond b (e ∷ passing f (m + n) (suc e)) (passing f (m + n) (suc e)) ≡ cond b (e ∷ passing f m (suc e)) (passing f m (suc e)) ++ passing f n (e + suc m)
    at true q = ap (λ (l : List ℕ). e ∷ l) q
    at false q = q

pub passing-same : (f g : ℕ → Bool) (n e : ℕ) → ((k : ℕ) → e ≤ k → k < e + n → f k ≡ g k) → passing f n e ≡ passing g n e
unfolding passing
passing-same f g zero e h = refl
passing-same f g (suc n) e h =
    ap₂ (λ (b : Bool) (l : List ℕ). cond b (e ∷ l) l) (h e (le_refl e) (omega arith)) (passing-same f g n (suc e) (λ k l b. h k (omega arith) (omega arith)))

-- none passes
pub passing-none : (f : ℕ → Bool) (n e : ℕ) → ((k : ℕ) → e ≤ k → k < e + n → f k ≡ false) → passing f n e ≡ []
unfolding passing
passing-none f zero e h = refl
passing-none f (suc n) e h =
    ap₂ (λ (b : Bool) (l : List ℕ). cond b (e ∷ l) l) (h e (le_refl e) (omega arith)) (passing-none f n (suc e) (λ k l b. h k (omega arith) (omega arith)))

-- There are as many places at which two rows differ as their distance is.
-- Assumes nothing.
use mathlib.Core.Path.{◌≡◌, refl, sym, ap, ap₂, ◌∙◌}
use mathlib.Core.Bool.{Bool, true, false, not, cond}
use mathlib.Core.List.{List, [], ◌∷◌}
use Prim.Native.Nat.{ℕ, zero, suc, ◌+◌, ◌-◌, ◌≤◌, ◌<◌}
use native.Mathlib.Nat.{add-zero}
use native.Mathlib.Omega.{arith}
use lib.Dec.{eqb}
use lib.ListN.{length, get_or}
use Rattle.code.specs.Code.{distance}
use Rattle.roots.specs.Roots.{passing}
use Rattle.errata.specs.Errata.{differing}

abbrev one : Bool → ℕ
one b = cond b 1 0

-- one number more is tried
passing-last : (f : ℕ → Bool) (n e : ℕ) → length (passing f (suc n) e) ≡ length (passing f n e) + one (f (e + n))
unfolding passing
passing-last f zero e = by (f e) ∙ ap (λ (k : ℕ). one (f k)) (sym (add-zero e)) ∙ front (one (f (e + 0)))
  where
    by : (b : Bool) → length (cond b (e ∷ []) []) ≡ one b
    by true = refl
    by false = refl

    front : (k : ℕ) → k ≡ 0 + k
    front k = omega arith
passing-last f (suc n) e =
    let k : suc e + n ≡ e + suc n = omega arith in
    longer (f e) (passing f (suc n) (suc e)) (passing f n (suc e)) (one (f (e + suc n))) (passing-last f n (suc e) ∙ ap (λ (k : ℕ). length (passing f n (suc e)) + one (f k)) k)
  where
    longer : (b : Bool) (x y : List ℕ) (d : ℕ) → length x ≡ length y + d → length (cond b (e ∷ x) x) ≡ length (cond b (e ∷ y) y) + d
    longer true x y d h = omega arith
    longer false x y d h = h

passing_ext : (f g : ℕ → Bool) (n e : ℕ) → ((a : ℕ) → e ≤ a → a < e + n → f a ≡ g a) → passing f n e ≡ passing g n e
unfolding passing
passing_ext f g zero e h = refl
passing_ext f g (suc n) e h =
    ap₂ (λ (b : Bool) (l : List ℕ). cond b (e ∷ l) l) (h e (omega arith) (omega arith)) (passing_ext f g n (suc e) (λ a b c. h a (omega arith) (omega arith)))

-- whether they differ k bytes before the end
abbrev apart : List ℕ → List ℕ → ℕ → Bool
apart r s i = not (eqb (get_or r i 0) (get_or s i 0))

differ_many : (n : ℕ) (r s : List ℕ) → length r ≡ n → length s ≡ n → length (passing (λ a. apart r s (n - suc a)) n 0) ≡ distance r s
unfolding distance passing
differ_many zero [] s lr ls = refl
differ_many zero (x ∷ r) s lr ls = absurd (omega arith)
differ_many (suc n) [] s lr ls = absurd (omega arith)
differ_many (suc n) (x ∷ r) [] lr ls = absurd (omega arith)
differ_many (suc n) (x ∷ r) (y ∷ s) lr ls =
    let z : suc n - suc (0 + n) ≡ 0 = omega arith in
    passing-last (λ a. apart (x ∷ r) (y ∷ s) (suc n - suc a)) n 0
    ∙ ap₂ (λ (i k : ℕ). i + one (apart (x ∷ r) (y ∷ s) k))
    (ap length (passing_ext (λ a. apart (x ∷ r) (y ∷ s) (suc n - suc a)) (λ a. apart r s (n - suc a)) n 0 (λ a b h. ap (apart (x ∷ r) (y ∷ s)) (back a (omega arith))))
    ∙ differ_many n r s (omega arith) (omega arith)) z
    ∙ by (eqb x y) (distance r s)
  where
    back : (a : ℕ) → a < n → suc n - suc a ≡ suc (n - suc a)
    back a h = omega arith

    by : (b : Bool) (d : ℕ) → d + one (not b) ≡ cond b d (suc d)
    by true d = omega arith
    by false d = omega arith

pub differing-distance : (r s : List ℕ) → length r ≡ 255 → length s ≡ 255 → length (differing r s) ≡ distance r s
unfolding differing
differing-distance r s lr ls =
    ap length (passing_ext (λ a. apart r s (254 - a)) (λ a. apart r s (255 - suc a)) 255 0 (λ a b h. ap (apart r s) (back a))) ∙ differ_many 255 r s lr ls
  where
    back : (a : ℕ) → 254 - a ≡ 255 - suc a
    back a = omega arith

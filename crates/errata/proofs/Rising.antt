-- Places that pass a test, in increasing order: there is one list of them.
-- Assumes nothing.
use mathlib.Core.Path.{◌≡◌, refl, sym, ap, subst, ◌∙◌}
use mathlib.Core.Logic.{◌≢◌, ◌⊎◌, inl, inr, ⊎_elim}
use mathlib.Core.Bool.{Bool, true, false, cond}
use mathlib.Core.List.{◌∷◌}
use Prim.Native.Nat.{ℕ, zero, suc, ◌≤◌, ◌<◌}
use native.Mathlib.Nat.{le_refl, not-suc-le-zero, le_of_suc-le-suc}
use native.Mathlib.Omega.{arith}
use lib.ListN.{length, get_or}
use Rattle.std.proofs.lemmas.Bool.{cases_lt, cases_eq}
use Rattle.ground.proofs.Numbers.{below_suc}
use Rattle.roots.specs.Roots.{passing}
use Rattle.roots.proofs.Bound.{chosen}

-- the n places u 0, u 1, .. are those below 255 that pass f, in increasing order
pub record Rises (f : ℕ → Bool) (n : ℕ) (u : ℕ → ℕ) : Type 0 where
  pub below : (k : ℕ) → k < n → u k < 255
  pub rising : (j k : ℕ) → j < k → k < n → u j < u k
  pub passes : (k : ℕ) → k < n → f (u k) ≡ true
  pub all : (a : ℕ) → a < 255 → f a ≡ true → (k : ℕ) × (k < n) × (u k ≡ a)

-- ---- what passes

all_pass : (f : ℕ → Bool) (n e k : ℕ) → k < length (passing f n e) → f (get_or (passing f n e) k 0) ≡ true
unfolding passing
all_pass f zero e k h = absurd (not-suc-le-zero h)
all_pass f (suc n) e k h = by (f e) refl (λ j. all_pass f n (suc e) j) k h
  where
    by : (b : Bool) → f e ≡ b → ((j : ℕ) → j < length (passing f n (suc e)) → f (get_or (passing f n (suc e)) j 0) ≡ true)
        → (k : ℕ) → k < length (cond b (e ∷ passing f n (suc e)) (passing f n (suc e)))
        → f (get_or (cond b (e ∷ passing f n (suc e)) (passing f n (suc e))) k 0) ≡ true
    by true q later zero h = q
    by true q later (suc k) h = later k (le_of_suc-le-suc h)
    by false q later k h = later k h

pub passing_rises : (f : ℕ → Bool) → Rises f (length (passing f 255 0)) (λ k. get_or (passing f 255 0) k 0)
passing_rises f =
    let c = chosen f 255 0 in
    record {
      below = λ k h. c.below k h;
      rising = c.rising;
      passes = all_pass f 255 0;
      all = λ a h t. c.all a (omega arith) h t;
    }

-- ---- two of them are the same

rises_le : {f : ℕ → Bool} {n : ℕ} {u : ℕ → ℕ} → Rises f n u → (k i : ℕ) → k ≤ i → i < n → u k ≤ u i
rises_le {f} {n} {u} x k i h b =
    ⊎_elim (λ (e : k ≡ i). subst (λ (j : ℕ). u k ≤ u j) e (le_refl (u k))) (λ (e : k ≡ i → ⊥). let l : u k < u i = x.rising k i (strict e) b in omega arith) (cases_eq k i)
  where
    strict : (k ≡ i → ⊥) → k < i
    strict e = ⊎_elim (λ (l : k < i). l) (λ (g : i ≤ k). absurd (e (omega arith))) (cases_lt k i)

module _ {f : ℕ → Bool} {m p : ℕ} {u w : ℕ → ℕ} (x : Rises f m u) (y : Rises f p w) where
  -- entry k of one stands in the other, not before entry k since those before agree; and the other way round
  module _ (k : ℕ) (l : k < m) (before : (j : ℕ) → j < k → (j < p) × (u j ≡ w j)) where
    early : (i : ℕ) → i < k → w i ≡ u k → ⊥
    early i c e = omega (arith, (before i c).1, x.rising i k c l, e)

    late : k < p → (j : ℕ) → j < k → u j ≡ w k → ⊥
    late s j c e = omega (arith, (before j c).1, y.rising j k c s, e)

    agree : (k < p) × (u k ≡ w k)
    agree =
        let i = y.all (u k) (x.below k l) (x.passes k l) in
        let g : k ≤ i.0 = ⊎_elim (λ (j : i.0 < k). absurd (early i.0 j i.2)) (λ (g : k ≤ i.0). g) (cases_lt i.0 k) in
        let s : k < p = omega (arith, i.1) in
        let j = x.all (w k) (y.below k s) (y.passes k s) in
        let o : k ≤ j.0 = ⊎_elim (λ (c : j.0 < k). absurd (late s j.0 c j.2)) (λ (g : k ≤ j.0). g) (cases_lt j.0 k) in
        (s, omega (arith, rises_le y k i.0 g i.1, rises_le x k j.0 o j.1, i.2, j.2))

  up_to : (b k : ℕ) → k < b → k < m → (k < p) × (u k ≡ w k)
  up_to zero k h l = absurd (not-suc-le-zero h)
  up_to (suc b) k h l = agree k l (λ j c. up_to b j (omega arith) (omega arith))

  pub rises_same : (k : ℕ) → k < m → (k < p) × (u k ≡ w k)
  rises_same k h = up_to (suc k) k (le_refl (suc k)) h

pub rises_many : {f : ℕ → Bool} {m p : ℕ} {u w : ℕ → ℕ} → Rises f m u → Rises f p w → m ≡ p
rises_many {f} {m} {p} x y =
    ⊎_elim (λ (h : m < p). absurd (omega (arith, (rises_same y x m h).0)))
    (λ (g : p ≤ m). ⊎_elim (λ (h : p < m). absurd (omega (arith, (rises_same x y p h).0))) (λ (h : m ≤ p). let e : m ≡ p = omega arith in e) (cases_lt p m)) (cases_lt m p)

-- ---- whether one of n places is a

pub somewhere : (u : ℕ → ℕ) (a n : ℕ) → ((k : ℕ) × (k < n) × (u k ≡ a)) ⊎ ((k : ℕ) → k < n → u k ≢ a)
somewhere u a zero = inr (λ k h. absurd (not-suc-le-zero h))
somewhere u a (suc n) =
    ⊎_elim (λ (e : u n ≡ a). inl (n, le_refl (suc n), e))
    (λ (e : u n ≡ a → ⊥).
    ⊎_elim (λ (s : (k : ℕ) × (k < n) × (u k ≡ a)). inl (s.0, later s.1, s.2))
    (λ (o : (k : ℕ) → k < n → u k ≢ a). inr (λ k h. ⊎_elim (λ (q : k ≡ n). λ z. e (ap u (sym q) ∙ z)) (λ (l : k < n). o k l) (below_suc h))) (somewhere u a n))
    (cases_eq (u n) a)
  where
    later : {k : ℕ} → k < n → k < suc n
    later h = omega arith

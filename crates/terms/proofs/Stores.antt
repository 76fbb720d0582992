-- What a loop knows of a list that it writes from the front, one entry a turn, and of its counter.
-- Assumes nothing.
use mathlib.Core.Path.{◌≡◌, refl, sym, subst, ◌∙◌}
use mathlib.Core.Logic.{⊎_elim}
use mathlib.Core.List.{List}
use Prim.Native.Nat.{ℕ, ◌+◌, ◌-◌, ◌≤◌, ◌<◌}
use native.Mathlib.Nat.{not-suc-le-zero}
use native.Mathlib.Numerals.{add-one}
use native.Mathlib.Omega.{arith}
use mir.Syntax.{w64}
use mir.Val.{Fits}
use lib.ListN.{length, get_or, set, length-set}
use lib.Seq.{get_or-set_same, get_or-set_other}
use Rattle.ground.proofs.Numbers.{below_suc}

-- ---- the counter k, below n

module _ {k n : ℕ} (h : k < n) where
  pub next-within : k + 1 ≤ n
  next-within = omega arith

  pub next_nearer : n - (k + 1) < n - k
  next_nearer = omega arith

  pub next_fits : n ≤ 16 → Fits w64 (k + 1)
  next_fits few = record { fits = omega arith }

-- ---- the list

-- each of the first k of n entries is as P says, and the others are as they were
pub record Front (P : ℕ → ℕ → Type 0) (n k : ℕ) (old out : List ℕ) : Type 0 where
  pub sized : length out ≡ n
  pub written : (i : ℕ) → i < k → P i (get_or out i 0)
  pub kept : (i : ℕ) → k ≤ i → get_or out i 0 ≡ get_or old i 0

pub front_start : (P : ℕ → ℕ → Type 0) (n : ℕ) (old : List ℕ) → length old ≡ n → Front P n 0 old old
front_start P n old long = record { sized = long; written = λ i h. absurd (not-suc-le-zero h); kept = λ i h. refl }

pub front-more : {P : ℕ → ℕ → Type 0} {n k : ℕ} {old out : List ℕ} → Front P n k old out → (v : ℕ) → k < n → P k v
    → Front P n (k + 1) old (set out k v)
front-more {P} {n} {k} {old} {out} front v h here =
    let long : length out ≡ n = front.sized in
    record {
      sized = length-set out k v ∙ long;
      written =
          λ i lt. ⊎_elim
          (λ (e : i ≡ k).
          subst (λ (x : ℕ). P x (get_or (set out k v) x 0)) (sym e) (subst (P k) (sym (get_or-set_same out k v 0 (omega arith))) here))
          (λ (m : i < k). subst (P i) (sym (get_or-set_other out k i v 0 (λ e. omega arith))) (front.written i m))
          (below_suc (subst (λ (m : ℕ). i < m) (add-one k) lt));
      kept = λ i le. get_or-set_other out k i v 0 (λ e. omega arith) ∙ front.kept i (omega arith);
    }

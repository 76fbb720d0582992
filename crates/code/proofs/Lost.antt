-- How many columns are lost (`lost_of`, specs/Restore.antt): the laws of the count, and what it says of two rows that agree wherever nothing is lost.
-- Assumes nothing.
use mathlib.Core.Path.{◌≡◌, refl, sym, ap, ap₂, subst, ◌∙◌}
use mathlib.Core.Bool.{Bool, true, false, cond, ◌||◌}
use mathlib.Core.List.{List, [], ◌∷◌}
use Prim.Native.Nat.{ℕ, zero, suc, ◌+◌, ◌≤◌, ◌<◌, zero-le, suc-le-suc}
use native.Mathlib.Nat.{le_refl, le_trans, le-suc, zero-lt-suc}
use native.Mathlib.Omega.{arith}
use lib.Dec.{eqb}
use lib.ListN.{length, get_or}
use borrow.Author.Tests.{eqb-false}
use Rattle.std.proofs.lemmas.Bool.{false_from_ne_true}
use Rattle.code.specs.Code.{distance}
use Rattle.code.specs.Restore.{lost_of}

abbrev more : Bool → ℕ → ℕ
more b n = cond b (suc n) n

pub lost-none : (f : ℕ → Bool) (n : ℕ) → ((c : ℕ) → c < n → f c ≡ false) → lost_of f n ≡ 0
unfolding lost_of
lost-none f zero all = refl
lost-none f (suc n) all = ap₂ more (all n (le_refl (suc n))) (lost-none f n (λ c h. all c (le_trans h (le-suc n))))

-- one column more is tried
pub lost-more : (f : ℕ → Bool) (n : ℕ) → lost_of f (suc n) ≡ more (f n) (lost_of f n)
unfolding lost_of
lost-more f n = refl

-- counted from the front
pub lost-first : (f : ℕ → Bool) (n : ℕ) → lost_of f (suc n) ≡ more (f 0) (lost_of (λ k. f (suc k)) n)
unfolding lost_of
lost-first f zero = refl
lost-first f (suc n) = ap (more (f (suc n))) (lost-first f n) ∙ swap (f (suc n)) (f 0) (lost_of (λ k. f (suc k)) n)
  where
    swap : (a b : Bool) (k : ℕ) → more a (more b k) ≡ more b (more a k)
    swap true true k = refl
    swap true false k = refl
    swap false true k = refl
    swap false false k = refl

pub lost_ext : (f g : ℕ → Bool) (n : ℕ) → ((c : ℕ) → c < n → f c ≡ g c) → lost_of f n ≡ lost_of g n
unfolding lost_of
lost_ext f g zero same = refl
lost_ext f g (suc n) same = ap₂ more (same n (le_refl (suc n))) (lost_ext f g n (λ c h. same c (le_trans h (le-suc n))))

-- never more than there are
pub lost-all : (f : ℕ → Bool) (n : ℕ) → lost_of f n ≤ n
unfolding lost_of
lost-all f zero = zero-le
lost-all f (suc n) = by (f n) (lost-all f n)
  where
    by : (b : Bool) → lost_of f n ≤ n → more b (lost_of f n) ≤ suc n
    by true h = suc-le-suc h
    by false h = le_trans h (le-suc n)

pub lost_either : (f g : ℕ → Bool) (n : ℕ) → lost_of (λ c. f c || g c) n ≤ lost_of f n + lost_of g n
unfolding lost_of
lost_either f g zero = zero-le
lost_either f g (suc n) = by (f n) (g n) (lost_of (λ c. f c || g c) n) (lost_of f n) (lost_of g n) (lost_either f g n)
  where
    by : (a b : Bool) (x y z : ℕ) → x ≤ y + z → more (a || b) x ≤ more a y + more b z
    by true true x y z h = omega arith
    by true false x y z h = omega arith
    by false true x y z h = omega arith
    by false false x y z h = h

-- one at most
pub lost_once : (f : ℕ → Bool) (n : ℕ) → ((c d : ℕ) → c < d → d < n → f c ≡ true → f d ≡ true → ⊥) → lost_of f n ≤ 1
unfolding lost_of
lost_once f zero one = zero-le
lost_once f (suc n) one = by (f n) refl (lost_once f n (λ c d b h. one c d b (le_trans h (le-suc n))))
  where
    by : (b : Bool) → f n ≡ b → lost_of f n ≤ 1 → more b (lost_of f n) ≤ 1
    by true p h = let z : lost_of f n ≡ 0 = lost-none f n (λ c l. false_from_ne_true (f c) (λ q. one c n l (le_refl (suc n)) q p)) in omega arith
    by false p h = h

-- rows that agree wherever nothing is lost
pub distance-lost : (a b : List ℕ) (f : ℕ → Bool) → ((c : ℕ) → c < length a → f c ≡ false → get_or a c 0 ≡ get_or b c 0) → distance a b ≤ lost_of f (length a)
unfolding distance
distance-lost [] b f same = zero-le
distance-lost (x ∷ a) [] f same = zero-le
distance-lost (x ∷ a) (y ∷ b) f same =
    subst (λ (n : ℕ). distance (x ∷ a) (y ∷ b) ≤ n) (sym (lost-first f (length a)))
    (at (eqb x y) refl (f 0) refl (distance-lost a b (λ k. f (suc k)) (λ c h. same (suc c) (suc-le-suc h))))
  where
    at : (t : Bool) → eqb x y ≡ t → (u : Bool) → f 0 ≡ u → distance a b ≤ lost_of (λ k. f (suc k)) (length a)
        → cond t (distance a b) (suc (distance a b)) ≤ more u (lost_of (λ k. f (suc k)) (length a))
    at true p true q h = le_trans h (le-suc (lost_of (λ k. f (suc k)) (length a)))
    at true p false q h = h
    at false p true q h = suc-le-suc h
    at false p false q h = absurd (eqb-false x y p (same 0 (zero-lt-suc (length a)) q))

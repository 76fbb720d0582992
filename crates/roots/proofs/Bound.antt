-- What is found, of a polynomial that is not zero: fewer roots than coefficients, each once, and all of them.
-- Assumes nothing.
use mathlib.Core.Path.{◌≡◌, refl, sym, ap, subst, ◌∙◌}
use mathlib.Core.Logic.{◌≢◌, ⊎_elim}
use mathlib.Core.Bool.{Bool, true, false, cond}
use mathlib.Core.List.{List, ◌∷◌, map}
use Prim.Native.Nat.{ℕ, zero, suc, ◌+◌, ◌≤◌, ◌<◌, zero-le, suc-le-suc}
use native.Mathlib.Nat.{le_refl, not-suc-le-zero, le_of_suc-le-suc, zero-lt-suc}
use native.Mathlib.Numerals.{lt_of_le_of_ne}
use native.Mathlib.Omega.{arith}
use borrow.Author.Tests.{eqb-true, eq-eqb}
use lib.Dec.{T}
use lib.ListN.{length, get_or, take, length-map}
use lib.Seq.{take_all}
use Rattle.std.proofs.lemmas.Bool.{cases_eq}
use Rattle.ground.specs.Lists.{listed}
use Rattle.ground.proofs.Listed.{get_or-listed_0}
use Rattle.field.specs.Field.{power}
use Rattle.field.proofs.Laws.{power-byte, power_injective}
use Rattle.code.specs.Code.{Bytes}
use Rattle.code.specs.Value.{eval}
use Rattle.code.proofs.Roots.{Roots, Off, Different, roots_few}
use Rattle.roots.specs.Roots.{passing, is_root, root_list, roots_of}

no_both : (b : Bool) → b ≡ false → b ≡ true → ⊥
no_both true p q = subst T p tt
no_both false p q = subst T (sym q) tt

-- what passes, of the n numbers from e on
pub record Chosen (f : ℕ → Bool) (n e : ℕ) (l : List ℕ) : Type 0 where
  pub from : (k : ℕ) → k < length l → e ≤ get_or l k 0
  pub below : (k : ℕ) → k < length l → get_or l k 0 < e + n
  pub rising : (j k : ℕ) → j < k → k < length l → get_or l j 0 < get_or l k 0
  pub all : (m : ℕ) → e ≤ m → m < e + n → f m ≡ true → (k : ℕ) × (k < length l) × (get_or l k 0 ≡ m)

module _ {f : ℕ → Bool} {n e : ℕ} {l : List ℕ} (was : Chosen f n (suc e) l) where
  -- e passes
  more_from : (k : ℕ) → k < length (e ∷ l) → e ≤ get_or (e ∷ l) k 0
  more_from zero h = le_refl e
  more_from (suc k) h = omega (arith, was.from k (le_of_suc-le-suc h))

  more-below : (k : ℕ) → k < length (e ∷ l) → get_or (e ∷ l) k 0 < e + suc n
  more-below zero h = omega arith
  more-below (suc k) h = omega (arith, was.below k (le_of_suc-le-suc h))

  more-rising : (j k : ℕ) → j < k → k < length (e ∷ l) → get_or (e ∷ l) j 0 < get_or (e ∷ l) k 0
  more-rising j zero b h = absurd (not-suc-le-zero b)
  more-rising zero (suc k) b h = was.from k (le_of_suc-le-suc h)
  more-rising (suc j) (suc k) b h = was.rising j k (le_of_suc-le-suc b) (le_of_suc-le-suc h)

  more-all : (m : ℕ) → e ≤ m → m < e + suc n → f m ≡ true → (k : ℕ) × (k < length (e ∷ l)) × (get_or (e ∷ l) k 0 ≡ m)
  more-all m b h t = ⊎_elim
      (λ (q : m ≡ e). (zero, zero-lt-suc (length l), sym q))
      (λ (q : m ≡ e → ⊥). let r = was.all m (lt_of_le_of_ne b (λ z. q (sym z))) (omega arith) t in (suc r.0, suc-le-suc r.1, r.2))
      (cases_eq m e)

  chosen_more : Chosen f (suc n) e (e ∷ l)
  chosen_more = record { from = more_from; below = more-below; rising = more-rising; all = more-all }

  -- e does not pass
  chosen_less : f e ≡ false → Chosen f (suc n) e l
  chosen_less q = record {
    from = λ k h. omega (arith, was.from k h);
    below = λ k h. omega (arith, was.below k h);
    rising = was.rising;
    all = λ m b h t. was.all m (lt_of_le_of_ne b (λ z. no_both (f e) q (ap f z ∙ t))) (omega arith) t;
  }

pub chosen : (f : ℕ → Bool) (n e : ℕ) → Chosen f n e (passing f n e)
unfolding passing
chosen f zero e = record {
  from = λ k h. absurd (not-suc-le-zero h);
  below = λ k h. absurd (not-suc-le-zero h);
  rising = λ j k b h. absurd (not-suc-le-zero h);
  all = λ m b h t. absurd (omega arith);
}
chosen f (suc n) e = at (f e) refl (chosen f n (suc e))
  where
    at : (b : Bool) → f e ≡ b → Chosen f n (suc e) (passing f n (suc e)) → Chosen f (suc n) e (cond b (e ∷ passing f n (suc e)) (passing f n (suc e)))
    at true q c = chosen_more c
    at false q c = chosen_less c q

-- ---- the points

off : (f : ℕ → Bool) (n e j : ℕ) → j < e → e + n ≤ 255 → Off (power j) (map power (passing f n e))
unfolding passing Off
off f zero e j h b = tt
off f (suc n) e j h b = at (f e) (off f n (suc e) j (omega arith) (omega arith))
  where
    at : (t : Bool) → Off (power j) (map power (passing f n (suc e))) → Off (power j) (map power (cond t (e ∷ passing f n (suc e)) (passing f n (suc e))))
    at true o = ((λ q. let z : e ≡ j = power_injective e j (omega arith) (omega arith) q in omega arith), o)
    at false o = o

different : (f : ℕ → Bool) (n e : ℕ) → e + n ≤ 255 → Different (map power (passing f n e))
unfolding passing Different
different f zero e b = tt
different f (suc n) e b = at (f e) (different f n (suc e) (omega arith))
  where
    at : (t : Bool) → Different (map power (passing f n (suc e))) → Different (map power (cond t (e ∷ passing f n (suc e)) (passing f n (suc e))))
    at true d = (power-byte e, off f n (suc e) e (omega arith) (omega arith), d)
    at false d = d

are_roots : (v : List ℕ) (n e : ℕ) → Roots v (map power (passing (is_root v) n e))
unfolding passing Roots
are_roots v zero e = tt
are_roots v (suc n) e = at (is_root v e) refl (are_roots v n (suc e))
  where
    at : (t : Bool) → is_root v e ≡ t → Roots v (map power (passing (is_root v) n (suc e))) → Roots v (map power (cond t (e ∷ passing (is_root v) n (suc e)) (passing (is_root v) n (suc e))))
    at true q r = (eqb-true (eval v (power e)) 0 q, r)
    at false q r = r

-- ---- what is found

pub record AllRoots (v : List ℕ) (n : ℕ) (at : List ℕ) : Type 0 where
  pub few : n < length v
  pub below : (k : ℕ) → k < n → get_or at k 0 < 255
  pub rising : (j k : ℕ) → j < k → k < n → get_or at j 0 < get_or at k 0
  pub all : (e : ℕ) → e < 255 → eval v (power e) ≡ 0 → (k : ℕ) × (k < n) × (get_or at k 0 ≡ e)

module _ (v : List ℕ) (c : ℕ) (bytes : Bytes v) (other : get_or v c 0 ≢ 0) (short : length v ≤ 16) where
  list-few : length (root_list v) < length v
  unfolding root_list
  list-few =
      let l : List ℕ = passing (is_root v) 255 0 in
      let n : length (map power l) ≡ length l = length-map l power in
      let h : length (map power l) < length v = roots_few v (map power l) c bytes other (different (is_root v) 255 0 (omega arith)) (are_roots v 255 0) in
      omega arith

  count : length (take 16 (root_list v)) ≡ length (root_list v)
  count = ap length (take_all 16 (root_list v) (omega (arith, list-few)))

  entry : (k : ℕ) → k < length (root_list v) → get_or (listed (λ j. get_or (root_list v) j 0) 16 0) k 0 ≡ get_or (root_list v) k 0
  entry k h = get_or-listed_0 (λ j. get_or (root_list v) j 0) 16 k 0 (omega (arith, list-few))

  list_chosen : Chosen (is_root v) 255 0 (root_list v)
  unfolding root_list
  list_chosen = chosen (is_root v) 255 0

  pub all_roots : AllRoots v (roots_of v).n (roots_of v).at
  unfolding roots_of
  all_roots = rw count (record {
    few = list-few;
    below = λ k h. rw (entry k h) (list_chosen.below k h);
    rising = λ j k b h. rw (entry j (omega arith), entry k h) (list_chosen.rising j k b h);
    all = λ e b z. let r = list_chosen.all e zero-le b (eq-eqb (eval v (power e)) 0 z) in (r.0, r.1, entry r.0 r.1 ∙ r.2);
  })

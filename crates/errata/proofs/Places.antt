-- Places in decreasing order (`falling_to`, specs/Restoring.antt): the test says that each is below the one before it, so they are different; and the columns that they are (`among`)
-- are as many at most.
-- Assumes nothing.
use mathlib.Core.Path.{◌≡◌, refl, sym, ap, subst, ◌∙◌}
use mathlib.Core.Logic.{◌≢◌, ⊎_elim}
use mathlib.Core.Bool.{true, false, ◌||◌}
use mathlib.Core.List.{List}
use Prim.Native.Nat.{ℕ, zero, suc, ◌+◌, ◌-◌, ◌≤◌, ◌<◌}
use native.Mathlib.Nat.{le_refl, le_trans, le-suc, not-suc-le-zero}
use native.Mathlib.Numerals.{add-one}
use native.Mathlib.Omega.{arith}
use borrow.Author.Tests.{ltb-true, lt-ltb, leb-true, le-leb, eqb-true, eqb-false}
use borrow.Author.Count.{below_more}
use lib.Dec.{eqb, leb, ltb}
use lib.ListN.{get_or}
use Rattle.std.proofs.lemmas.Bool.{and_parts, or_cases, or_parts, false_from_ne_true}
use Rattle.ground.proofs.Truth.{and_join}
use Rattle.ground.proofs.Numbers.{below_suc}
use Rattle.code.specs.Restore.{lost_of}
use Rattle.code.proofs.Lost.{lost-none, lost_ext, lost_either, lost_once}
use Rattle.errata.specs.Restoring.{entry_before, falls_to, falling_to, among}
use Rattle.errata.specs.InnerErrata.{Placed}

-- ---- the test

falls_each : (at : List ℕ) (n : ℕ) → falls_to at n ≡ true → (k : ℕ) → k < n → get_or at k 0 < entry_before at k
unfolding falls_to
falls_each at zero t k h = absurd (not-suc-le-zero h)
falls_each at (suc n) t k h =
    let b = and_parts (ltb (get_or at n 0) (entry_before at n)) (falls_to at n) t in
    ⊎_elim (λ (e : k ≡ n). subst (λ (x : ℕ). get_or at x 0 < entry_before at x) (sym e) (ltb-true (get_or at n 0) (entry_before at n) b.0))
    (λ (l : k < n). falls_each at n b.1 k l) (below_suc h)

each_falls : (at : List ℕ) (n : ℕ) → ((k : ℕ) → k < n → get_or at k 0 < entry_before at k) → falls_to at n ≡ true
unfolding falls_to
each_falls at zero all = refl
each_falls at (suc n) all =
    and_join (lt-ltb (get_or at n 0) (entry_before at n) (all n (le_refl (suc n)))) (each_falls at n (λ k h. all k (le_trans h (le-suc n))))

module _ (at : List ℕ) (n : ℕ) (falling : falling_to at n ≡ true) where
  pub falling-few : n ≤ 16
  unfolding falling_to
  falling-few = leb-true n 16 (and_parts (leb n 16) (falls_to at n) falling).0

  falling_each : (k : ℕ) → k < n → get_or at k 0 < entry_before at k
  unfolding falling_to
  falling_each = falls_each at n (and_parts (leb n 16) (falls_to at n) falling).1

  pub falling-below : (k : ℕ) → k < n → get_or at k 0 < 255
  falling-below zero h = falling_each 0 h
  falling-below (suc k) h = omega (arith, falling_each (suc k) h, falling-below k (omega arith))

  pub falling_strict : (j k : ℕ) → j < k → k < n → get_or at k 0 < get_or at j 0
  falling_strict j zero h b = absurd (not-suc-le-zero h)
  falling_strict j (suc k) h b =
      ⊎_elim (λ (e : j ≡ k). subst (λ (x : ℕ). get_or at (suc k) 0 < get_or at x 0) (sym e) (falling_each (suc k) b))
      (λ (l : j < k). omega (arith, falling_each (suc k) b, falling_strict j k l (omega arith))) (below_suc h)

  pub falling-placed : Placed n at
  falling-placed = record { few = falling-few; below = falling-below; apart = λ k l h b e. omega (arith, falling_strict k l h b) }

-- ---- the turns of the test, of which k passed

pub record Descending (at : List ℕ) (n k last : ℕ) : Type 0 where
  pub few : n ≤ 16
  pub within : k ≤ n
  pub was : last ≡ entry_before at k
  pub each : (i : ℕ) → i < k → get_or at i 0 < entry_before at i

pub descending_start : (at : List ℕ) (n : ℕ) → n ≤ 16 → Descending at n 0 255
descending_start at n few = record { few = few; within = omega arith; was = refl; each = λ i h. absurd (not-suc-le-zero h) }

pub descending_more : {at : List ℕ} {n k last : ℕ} → Descending at n k last → k < n → get_or at k 0 < last → Descending at n (k + 1) (get_or at k 0)
descending_more {at} {n} {k} {last} d h b =
    record {
      few = d.few;
      within = omega arith;
      was = ap (entry_before at) (sym (add-one k));
      each = below_more (λ (i : ℕ). get_or at i 0 < entry_before at i) k d.each (subst (λ (x : ℕ). get_or at k 0 < x) d.was b);
    }

pub descending_end : {at : List ℕ} {n k last : ℕ} → Descending at n k last → n ≤ k → true ≡ falling_to at n
unfolding falling_to
descending_end {at} {n} {k} d h =
    sym (and_join (le-leb n 16 d.few) (each_falls at n (λ i l. d.each i (omega arith))))

-- one that is not below the one before it
pub descending_not : {at : List ℕ} {n k last : ℕ} → Descending at n k last → k < n → last ≤ get_or at k 0 → false ≡ falling_to at n
descending_not {at} {n} {k} {last} d h b =
    sym (false_from_ne_true (falling_to at n) (λ t. omega (arith, falling_each at n t k h, d.was)))

pub too_many : (at : List ℕ) (n : ℕ) → 16 < n → false ≡ falling_to at n
too_many at n h = sym (false_from_ne_true (falling_to at n) (λ t. omega (arith, falling-few at n t)))

-- ---- the columns

pub among_one : (at : List ℕ) (n c : ℕ) → among at n c ≡ true → (k : ℕ) × (k < n) × (get_or at k 0 ≡ 254 - c)
unfolding among
among_one at zero c t = let z : ◌≡◌ {A = ℕ} 0 1 = cc in absurd (omega arith)
among_one at (suc n) c t =
    ⊎_elim (λ (e : eqb (get_or at n 0) (254 - c) ≡ true). (n, le_refl (suc n), eqb-true (get_or at n 0) (254 - c) e))
    (λ (e : among at n c ≡ true). let k = among_one at n c e in (k.0, le_trans k.1 (le-suc n), k.2))
    (or_cases (eqb (get_or at n 0) (254 - c)) (among at n c) t)

pub among_none : (at : List ℕ) (n c : ℕ) → among at n c ≡ false → (k : ℕ) → k < n → get_or at k 0 ≢ 254 - c
unfolding among
among_none at zero c t k h = absurd (not-suc-le-zero h)
among_none at (suc n) c t k h =
    let b = or_parts (eqb (get_or at n 0) (254 - c)) (among at n c) t in
    ⊎_elim (λ (e : k ≡ n). λ q. eqb-false (get_or at n 0) (254 - c) b.0 (ap (λ (x : ℕ). get_or at x 0) (sym e) ∙ q))
    (λ (l : k < n). among_none at n c b.1 k l) (below_suc h)

-- a column that is none of the places is not lost
pub not_among : (at : List ℕ) (n c : ℕ) → ((k : ℕ) → k < n → get_or at k 0 ≢ 254 - c) → among at n c ≡ false
not_among at n c off = false_from_ne_true (among at n c) (λ t. let k = among_one at n c t in off k.0 k.1 k.2)

-- one place is one column
place_once : (a : ℕ) → lost_of (λ c. eqb a (254 - c)) 255 ≤ 1
place_once a =
    lost_once (λ c. eqb a (254 - c)) 255 (λ c d h b p q. omega (arith, eqb-true a (254 - c) p, eqb-true a (254 - d) q))

among-step : (at : List ℕ) (n c : ℕ) → among at (suc n) c ≡ (eqb (get_or at n 0) (254 - c) || among at n c)
unfolding among
among-step at n c = refl

among-many : (at : List ℕ) (n : ℕ) → lost_of (among at n) 255 ≤ n
among-many at zero = omega (arith, lost-none (among at 0) 255 (λ c h. nowhere c))
  where
    nowhere : (c : ℕ) → among at 0 c ≡ false
    nowhere c = not_among at 0 c (λ k h. absurd (not-suc-le-zero h))
among-many at (suc n) =
    omega (arith, more, lost_either (λ c. eqb (get_or at n 0) (254 - c)) (among at n) 255, place_once (get_or at n 0), among-many at n)
  where
    more : lost_of (among at (suc n)) 255 ≡ lost_of (λ c. eqb (get_or at n 0) (254 - c) || among at n c) 255
    more = lost_ext (among at (suc n)) (λ c. eqb (get_or at n 0) (254 - c) || among at n c) 255 (λ c h. among-step at n c)

pub among-few : (at : List ℕ) (n : ℕ) → falling_to at n ≡ true → lost_of (among at n) 255 ≤ 16
among-few at n falling = le_trans (among-many at n) (falling-few at n falling)

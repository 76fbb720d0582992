-- The list of what is to be added is determined by the row and by what it becomes: the places at which they differ, in increasing order, and by how much.
-- Assumes nothing.
use mathlib.Core.Path.{◌≡◌, refl, sym, ap, subst, ◌∙◌}
use mathlib.Core.Logic.{◌≢◌, ◌⊎◌, inl, inr, ⊎_elim}
use mathlib.Core.Bool.{Bool, true, false, not}
use mathlib.Core.List.{List, [], ◌∷◌, map}
use Rattle.std.proofs.lemmas.Bool.{cases_lt}
use Rattle.std.proofs.Common.{Some}
use Prim.Native.Nat.{ℕ, zero, suc, ◌-◌, ◌≤◌, ◌<◌}
use native.Mathlib.Nat.{le_refl, not-suc-le-zero, le_of_suc-le-suc}
use native.Mathlib.Omega.{arith}
use borrow.Author.Tests.{eq-eqb, ne_eqb}
use lib.Dec.{eqb}
use lib.ListN.{length, get_or, set, length-map}
use lib.Seq.{get_or-set_same, get_or-set_other, ext_get_or}
use Rattle.ground.specs.Bits.{sum}
use Rattle.ground.proofs.Listed.{length-listed, get_or-listed_0}
use Rattle.ground.proofs.Sums.{sum_self}
use Rattle.ground.proofs.Numbers.{below_suc}
use Rattle.code.specs.Search.Repaired.{found}
use Rattle.code.proofs.Lists.{sum-again}
use Rattle.errata.specs.declared.Errata.{Errata}
use Rattle.errata.specs.Errata.{at_place, differing, differences, padded, errata_for}
use Rattle.errata.specs.InnerErrata.{entries, mended_by, Listed}
use Rattle.errata.proofs.Mending.{mended-length, mended_off}
use Rattle.errata.proofs.Rising.{Rises, passing_rises, rises_same, rises_many, somewhere}

-- at the place k of n different ones the value is added
pub mended-on : (row : List ℕ) → length row ≡ 255 → (a c : ℕ → ℕ) (n : ℕ) → ((k : ℕ) → k < n → a k < 255) → ((j k : ℕ) → j < k → k < n → a j ≢ a k)
    → (k : ℕ) → k < n → at_place (mended_by row a c n) (a k) ≡ sum (at_place row (a k)) (c k)
unfolding mended_by
mended-on row long a c zero below apart k h = absurd (not-suc-le-zero h)
mended-on row long a c (suc n) below apart k h =
    by (mended-on row long a c n (λ k h. below k (omega arith)) (λ j k b h. apart j k b (omega arith))) (below_suc h)
  where
    by : ((k : ℕ) → k < n → at_place (mended_by row a c n) (a k) ≡ sum (at_place row (a k)) (c k)) → (k ≡ n) ⊎ (k < n)
        → at_place (set (mended_by row a c n) (254 - a n) (sum (at_place (mended_by row a c n) (a n)) (c n))) (a k) ≡ sum (at_place row (a k)) (c k)
    by old (inl e) =
        let l : List ℕ = mended_by row a c n in
        let size : length l ≡ 255 = mended-length row long a c n in
        ap (λ (x : ℕ). at_place (set l (254 - a n) (sum (at_place l (a n)) (c n))) (a x)) e
        ∙ get_or-set_same l (254 - a n) (sum (at_place l (a n)) (c n)) 0 (omega arith)
        ∙ ap (λ (x : ℕ). sum x (c n))
        (mended_off row long a c n (254 - a n) (λ j b z. apart j n b (le_refl (suc n)) (omega (arith, below j (omega arith), below n (le_refl (suc n))))))
        ∙ sym (ap (λ (x : ℕ). sum (at_place row (a x)) (c x)) e)
    by old (inr b) =
        let l : List ℕ = mended_by row a c n in
        get_or-set_other l (254 - a n) (254 - a k) (sum (at_place l (a n)) (c n)) 0
        (λ z. apart k n b (le_refl (suc n)) (omega (arith, below k (omega arith), below n (le_refl (suc n)))))
        ∙ old k b

pub get_d_map : (f : ℕ → ℕ) (l : List ℕ) (k : ℕ) → k < length l → get_or (map f l) k 0 ≡ f (get_or l k 0)
get_d_map f [] k h = absurd (not-suc-le-zero h)
get_d_map f (x ∷ l) zero h = refl
get_d_map f (x ∷ l) (suc k) h = get_d_map f l k (le_of_suc-le-suc h)

pub beyond : (l : List ℕ) (k : ℕ) → length l ≤ k → get_or l k 0 ≡ 0
beyond [] k h = refl
beyond (x ∷ l) zero h = absurd (not-suc-le-zero h)
beyond (x ∷ l) (suc k) h = beyond l k (le_of_suc-le-suc h)

-- sixteen entries, of which the first n are those of l, and the others 0
pub all-padded : (n : ℕ) (d l : List ℕ) → length d ≡ 16 → length l ≡ n → ((k : ℕ) → k < n → get_or d k 0 ≡ get_or l k 0) → ((k : ℕ) → n ≤ k → get_or d k 0 ≡ 0) → d ≡ padded l
all-padded n d l long many front behind =
    ext_get_or 0 d (padded l) (long ∙ sym (length-listed (λ k. get_or l k 0) 16 0))
    (λ k h.
    ⊎_elim (λ (b : k < n). front k b) (λ (b : n ≤ k). behind k b ∙ sym (beyond l k (omega arith))) (cases_lt k n)
    ∙ sym (get_or-listed_0 (λ k. get_or l k 0) 16 k 0 (subst (λ (m : ℕ). k < m) long h)))

-- ---- the list

module _ (r s : List ℕ) (long : length r ≡ 255) (e : Errata) (w : Listed e) (same : s ≡ mended_by r (entries e.at) (entries e.values) e.n) where
  abbrev at : ℕ → ℕ
  at k = get_or e.at k 0

  abbrev value : ℕ → ℕ
  value k = get_or e.values k 0

  on : (k : ℕ) → k < e.n → at_place s (at k) ≡ sum (at_place r (at k)) (value k)
  on k h =
      ap (λ (l : List ℕ). at_place l (at k)) same ∙ mended-on r long (entries e.at) (entries e.values) e.n w.ordered.below (λ j k b h z. omega (arith, w.ordered.rising j k b h)) k h

  -- what is added is by how much they differ
  difference : (k : ℕ) → k < e.n → sum (at_place r (at k)) (at_place s (at k)) ≡ value k
  difference k h = ap (sum (at_place r (at k))) (on k h) ∙ sum-again (at_place r (at k)) (value k)

  off : (a : ℕ) → a < 255 → ((k : ℕ) → k < e.n → at k ≢ a) → at_place r a ≡ at_place s a
  off a b o =
      sym (ap (λ (l : List ℕ). at_place l a) same
      ∙ mended_off r long (entries e.at) (entries e.values) e.n (254 - a) (λ k h z. o k h (omega (arith, w.ordered.below k h))))

  abbrev differ : ℕ → Bool
  differ a = not (eqb (at_place r a) (at_place s a))

  changed : (k : ℕ) → k < e.n → differ (at k) ≡ true
  changed k h =
      ap not (ne_eqb (at_place r (at k)) (at_place s (at k)) (λ q. w.some k h (sym (difference k h) ∙ ap (sum (at_place r (at k))) (sym q) ∙ sum_self (at_place r (at k)))))

  each : (a : ℕ) → a < 255 → differ a ≡ true → (k : ℕ) × (k < e.n) × (at k ≡ a)
  each a b t =
      ⊎_elim (λ (f : (k : ℕ) × (k < e.n) × (at k ≡ a)). f)
      (λ (o : (k : ℕ) → k < e.n → at k ≢ a). absurd (true_not_false (sym t ∙ ap not (eq-eqb (at_place r a) (at_place s a) (off a b o))))) (somewhere at a e.n)
    where
      true_not_false : true ≡ false → ⊥
      true_not_false e = let z : ◌≡◌ {A = ℕ} 0 1 = cc in omega arith

  rises : Rises differ e.n at
  rises = record { below = w.ordered.below; rising = w.ordered.rising; passes = changed; all = each }

  many : e.n ≡ length (differing r s)
  unfolding differing
  many = rises_many rises (passing_rises differ)

  place : (k : ℕ) → k < e.n → at k ≡ get_or (differing r s) k 0
  unfolding differing
  place k h = (rises_same rises (passing_rises differ) k h).1

  amount : (k : ℕ) → k < e.n → value k ≡ get_or (differences r s) k 0
  unfolding differences
  amount k h =
      sym (get_d_map (λ (a : ℕ). sum (at_place r a) (at_place s a)) (differing r s) k (subst (λ (n : ℕ). k < n) many h)
      ∙ ap (λ (a : ℕ). sum (at_place r a) (at_place s a)) (sym (place k h)) ∙ difference k h)

  many-amounts : length (differences r s) ≡ e.n
  unfolding differences
  many-amounts = length-map (differing r s) (λ (a : ℕ). sum (at_place r a) (at_place s a)) ∙ sym many

  pub listed-told : Some e ≡ errata_for r (found s)
  unfolding errata_for
  listed-told =
      let p : e.at ≡ padded (differing r s) = all-padded e.n e.at (differing r s) w.sized.0 (sym many) place (λ k h. (w.behind k h).0) in
      let v : e.values ≡ padded (differences r s) = all-padded e.n e.values (differences r s) w.sized.1 many-amounts amount (λ k h. (w.behind k h).1) in
      λ i. Some (record { n = many i; at = p i; values = v i })

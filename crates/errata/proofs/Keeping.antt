-- Places at which there is nothing to add are left out, one after the other: any row becomes the same without them.
-- Assumes nothing.
use mathlib.Core.Path.{◌≡◌, refl, sym, ap, ap₂, subst, ◌∙◌}
use mathlib.Core.Logic.{◌≢◌, ⊎_elim}
use mathlib.Core.List.{List}
use Prim.Native.Nat.{ℕ, zero, suc, min, ◌+◌, ◌-◌, ◌≤◌, ◌<◌}
use native.Mathlib.Nat.{min-eq_left, min-eq_right, le_refl, not-suc-le-zero}
use native.Mathlib.Numerals.{add-one}
use native.Mathlib.Omega.{arith}
use lib.ListN.{length, get_or, set, length-set}
use lib.Seq.{get_or-set_same, get_or-set_other, set-get_or}
use Rattle.std.proofs.lemmas.Bool.{cases_lt, cases_eq}
use Rattle.ground.specs.Bits.{sum}
use Rattle.ground.proofs.Sums.{sum_zero}
use Rattle.ground.proofs.Numbers.{below_suc}
use Rattle.ground.proofs.Listed.{zeros_at}
use Rattle.errata.specs.declared.Errata.{Errata}
use Rattle.errata.proofs.Listing.{beyond}
use Rattle.errata.specs.InnerErrata.{nothing_added, entries, mended_by, Ordered, added, Put, Listed, Kept}

-- ---- the row

mended-nothing : (row : List ℕ) (a c : ℕ → ℕ) (k : ℕ) → c k ≡ 0 → mended_by row a c k ≡ mended_by row a c (k + 1)
unfolding mended_by
mended-nothing row a c k z =
    let l : List ℕ = mended_by row a c k in
    sym (ap (mended_by row a c) (add-one k)
    ∙ ap (set l (254 - a k)) (ap (sum (get_or l (254 - a k) 0)) z ∙ sum_zero (get_or l (254 - a k) 0))
    ∙ set-get_or l (254 - a k) 0)

-- behind entry m there is nothing to add
mended_further : (row : List ℕ) (a c : ℕ → ℕ) (m d : ℕ) → ((k : ℕ) → m ≤ k → c k ≡ 0) → mended_by row a c (m + d) ≡ mended_by row a c m
mended_further row a c m zero idle = ap (mended_by row a c) (let e : m + 0 ≡ m = omega arith in e)
mended_further row a c m (suc d) idle =
    let e : m + suc d ≡ m + d + 1 = omega arith in
    ap (mended_by row a c) e ∙ sym (mended-nothing row a c (m + d) (idle (m + d) (omega arith))) ∙ mended_further row a c m d idle

-- of more than sixteen values the first sixteen count
pub mended_sixteen : (row at values : List ℕ) (n k : ℕ) → length values ≡ 16 → k ≡ min n 16 → mended_by row (entries at) (entries values) k ≡ mended_by row (entries at) (entries values) n
mended_sixteen row at values n k long e =
    ⊎_elim
    (λ (h : n < 16). ap (mended_by row (entries at) (entries values)) (e ∙ min-eq_left (omega arith)))
    (λ (h : 16 ≤ n).
    let d : 16 + (n - 16) ≡ n = omega arith in
    ap (mended_by row (entries at) (entries values)) (e ∙ min-eq_right h) ∙ sym (mended_further row (entries at) (entries values) 16 (n - 16) (λ k b. beyond values k (omega arith)))
    ∙ ap (mended_by row (entries at) (entries values)) d)
    (cases_lt n 16)

mended_ext : (row : List ℕ) (a b c d : ℕ → ℕ) (n : ℕ) → ((k : ℕ) → k < n → (a k ≡ b k) × (c k ≡ d k)) → mended_by row a c n ≡ mended_by row b d n
unfolding mended_by
mended_ext row a b c d zero e = refl
mended_ext row a b c d (suc k) e =
    let here = e k (le_refl (suc k)) in
    let l : List ℕ = mended_by row b d k in
    ap₂ (λ (l : List ℕ) (n : ℕ). set l (254 - n) (sum (get_or l (254 - n) 0) (c k))) (mended_ext row a b c d k (λ i h. e i (omega arith))) here.0
    ∙ ap (λ (v : ℕ). set l (254 - b k) (sum (get_or l (254 - b k) 0) v)) here.1

-- ---- the list, after k of n places

pub record Keeping (at c : List ℕ) (n k : ℕ) (e : Errata) : Type 0 where
  pub within : k ≤ n
  pub listed : Listed e
  pub few : e.n ≤ k
  pub before : (j l : ℕ) → j < e.n → k ≤ l → l < n → get_or e.at j 0 < get_or at l 0
  pub same : (row : List ℕ) → mended_by row (entries e.at) (entries e.values) e.n ≡ mended_by row (entries at) (entries c) k

pub keeping_start : (at c : List ℕ) (n : ℕ) → Keeping at c n 0 (nothing_added)
unfolding mended_by nothing_added
keeping_start at c n =
    record {
      within = omega arith;
      listed =
          record {
            ordered = record { few = omega arith; below = λ k h. absurd (not-suc-le-zero h); rising = λ j k b h. absurd (not-suc-le-zero h) };
            some = λ k h. absurd (not-suc-le-zero h);
            sized = (refl, refl);
            behind = λ k h. (zeros_at 16 k, zeros_at 16 k);
          };
      few = omega arith;
      before = λ j l h. absurd (not-suc-le-zero h);
      same = λ row. refl;
    }

-- a list with one entry more
module _ (l : List ℕ) (m v : ℕ) (h : m < length l) where
  put-here : get_or (set l m v) m 0 ≡ v
  put-here = get_or-set_same l m v 0 h

  put-below : (j : ℕ) → j < m → get_or (set l m v) j 0 ≡ get_or l j 0
  put-below j b = get_or-set_other l m j v 0 (λ e. omega arith)

  put-above : (j : ℕ) → m < j → get_or (set l m v) j 0 ≡ get_or l j 0
  put-above j b = get_or-set_other l m j v 0 (λ e. omega arith)

  -- what holds of those before, and of the new one, holds of all
  put_each : (P : ℕ → Type 0) → P v → ((j : ℕ) → j < m → P (get_or l j 0)) → (j : ℕ) → j < m + 1 → P (get_or (set l m v) j 0)
  put_each P new old j b =
      ⊎_elim (λ (e : j ≡ m). subst (λ (x : ℕ). P (get_or (set l m v) x 0)) (sym e) (subst P (sym put-here) new))
      (λ (b : j < m). subst P (sym (put-below j b)) (old j b)) (below_suc (subst (λ (x : ℕ). j < x) (add-one m) b))

  put-rising : ((j k : ℕ) → j < k → k < m → get_or l j 0 < get_or l k 0) → ((j : ℕ) → j < m → get_or l j 0 < v) → (j k : ℕ) → j < k → k < m + 1
      → get_or (set l m v) j 0 < get_or (set l m v) k 0
  put-rising old new j k b h =
      ⊎_elim
      (λ (e : k ≡ m).
      let q : get_or (set l m v) k 0 ≡ v = ap (λ (x : ℕ). get_or (set l m v) x 0) e ∙ put-here in
      let i : j < m = omega arith in
      omega (arith, q, put-below j i, new j i))
      (λ (i : k < m). omega (arith, put-below j (omega arith), put-below k i, old j k b i)) (below_suc (subst (λ (x : ℕ). k < x) (add-one m) h))

module _ {at c : List ℕ} {n k : ℕ} {e : Errata} (was : Keeping at c n k e) (ordered : Ordered n at) (h : k < n) where
  fewer : e.n < 16
  fewer = omega (arith, was.few, ordered.few)

  at_room : e.n < length e.at
  at_room = omega (arith, fewer, was.listed.sized.0)

  value_room : e.n < length e.values
  value_room = omega (arith, fewer, was.listed.sized.1)

  a : ℕ
  a = get_or at k 0

  v : ℕ
  v = get_or c k 0

  keeping_less : v ≡ 0 → Keeping at c n (k + 1) e
  unfolding v
  keeping_less z =
      record {
        within = omega arith;
        listed = was.listed;
        few = omega (arith, was.few);
        before = λ j l b i. was.before j l b (omega arith);
        same = λ row. was.same row ∙ mended-nothing row (entries at) (entries c) k z;
      }

  longer : v ≢ 0 → Listed (added e a v)
  unfolding a v
  longer nz =
      let old = was.listed in
      record {
        ordered =
            record {
              few = omega (arith, was.few, ordered.few);
              below = put_each e.at e.n a at_room (λ (x : ℕ). x < 255) (ordered.below k h) old.ordered.below;
              rising = put-rising e.at e.n a at_room old.ordered.rising (λ j b. was.before j k b (le_refl k) h);
            };
        some = put_each e.values e.n v value_room (λ (x : ℕ). x ≢ 0) nz old.some;
        sized = (length-set e.at e.n a ∙ old.sized.0, length-set e.values e.n v ∙ old.sized.1);
        behind =
            λ j b. (
              put-above e.at e.n a at_room j (omega arith) ∙ (old.behind j (omega arith)).0,
              put-above e.values e.n v value_room j (omega arith) ∙ (old.behind j (omega arith)).1,
            );
      }

  keeping_added : v ≢ 0 → Keeping at c n (k + 1) (added e a v)
  unfolding mended_by a v
  keeping_added nz =
      record {
        within = omega arith;
        listed = longer nz;
        few = omega (arith, was.few);
        before =
            λ j l b i m. put_each e.at e.n a at_room (λ (x : ℕ). x < get_or at l 0) (ordered.rising k l (omega arith) m) (λ j b. was.before j l b (omega arith) m) j b;
        same =
            λ row.
            let x : List ℕ = set e.at e.n a in
            let y : List ℕ = set e.values e.n v in
            let m : List ℕ = mended_by row (entries at) (entries c) k in
            ap (mended_by row (entries x) (entries y)) (add-one e.n)
            ∙ ap₂ (λ (p q : ℕ). set (mended_by row (entries x) (entries y) e.n) (254 - p) (sum (get_or (mended_by row (entries x) (entries y) e.n) (254 - p) 0) q))
            (put-here e.at e.n a at_room) (put-here e.values e.n v value_room)
            ∙ ap (λ (l : List ℕ). set l (254 - a) (sum (get_or l (254 - a) 0) v))
            (mended_ext row (entries x) (entries e.at) (entries y) (entries e.values) e.n
            (λ j b. (put-below e.at e.n a at_room j b, put-below e.values e.n v value_room j b)) ∙ was.same row)
            ∙ sym (ap (mended_by row (entries at) (entries c)) (add-one k));
      }

  pub keeping_more : {r : Errata} → Put e (get_or at k 0) (get_or c k 0) r → Keeping at c n (k + 1) r
  unfolding a v
  keeping_more {r} put =
      ⊎_elim (λ (z : v ≡ 0). subst (Keeping at c n (k + 1)) (sym (put.nothing z)) (keeping_less z))
      (λ (nz : v ≡ 0 → ⊥). subst (Keeping at c n (k + 1)) (sym (put.more nz)) (keeping_added nz)) (cases_eq v 0)

pub keeping_end : {at c : List ℕ} {n k : ℕ} {e : Errata} → Keeping at c n k e → n ≤ k → Kept at c n e
keeping_end {at} {c} {n} {k} {e} was h =
    let q : k ≡ n = omega (arith, was.within) in
    record { listed = was.listed; same = λ row. was.same row ∙ ap (mended_by row (entries at) (entries c)) q }

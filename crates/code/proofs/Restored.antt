-- Restoring is exact (document 01, section 3; document 02, R-8): the search meets every list of 255 bytes, so it finds a coded row that has the known bytes if there is one; two such
-- rows differ at lost bytes only, at most sixteen, and are one (`coded_unique`).
-- Assumes nothing.
use mathlib.Core.Path.{◌≡◌, refl, sym, ap, ap₂, subst, ◌∙◌}
use mathlib.Core.Logic.{⊎_elim}
use mathlib.Core.Bool.{Bool, true, false, cond, ◌||◌}
use mathlib.Core.List.{List, [], append-nil}
use Prim.Native.Nat.{ℕ, zero, suc, ◌≤◌, ◌<◌}
use native.Mathlib.Nat.{le_refl, le_trans, le-suc, not-suc-le-zero}
use native.Mathlib.Omega.{arith}
use lib.Dec.{eqb}
use lib.ListN.{length, get_or}
use borrow.Author.Tests.{eqb-true, eq-eqb}
use Rattle.std.proofs.lemmas.Bool.{or_parts}
use Rattle.ground.proofs.Numbers.{below_suc}
use Rattle.ground.proofs.Truth.{differ}
use Rattle.code.specs.Code.{Bytes, Coded, distance}
use Rattle.code.specs.Search.{Repaired, remainder, all_zero, seek}
use Rattle.code.specs.Search.Repaired.{found, none}
use Rattle.code.specs.Restore.{Fits, lost_of, has_known, is_fit, restore_of, RestoreIsExact, OnlyOne, WrongIsFound}
use Rattle.code.proofs.Lists.{zeros}
use Rattle.code.proofs.Division.{length-remainder, coded-remainder, remainder-coded}
use Rattle.code.proofs.Distance.{coded_unique}
use Rattle.code.proofs.Lost.{distance-lost}
use Rattle.code.proofs.Exact.{Sought, seek_found, seek-some, all_zeros, zeros_all}

-- ---- one row at most

pub only_one : OnlyOne
only_one lost r s s' few p q =
    let d : distance s s' ≤ lost_of lost (length s) =
    distance-lost s s' lost
    (λ c h k. let b : c < 255 = subst (λ (n : ℕ). c < n) p.coded.sized h in p.known c b k ∙ sym (q.known c b k)) in
    coded_unique s s' p.coded q.coded (le_trans d (subst (λ (n : ℕ). lost_of lost n ≤ 16) (sym p.coded.sized) few))

-- ---- the test

-- the known bytes of the first n
abbrev Known : (ℕ → Bool) → List ℕ → List ℕ → ℕ → Type 0
Known lost r s n = (c : ℕ) → c < n → lost c ≡ false → get_or s c 0 ≡ get_or r c 0

known_more : (lost : ℕ → Bool) (r s : List ℕ) (n : ℕ) → (lost n ≡ false → get_or s n 0 ≡ get_or r n 0) → Known lost r s n → Known lost r s (suc n)
known_more lost r s n here before c h k =
    ⊎_elim (λ (e : c ≡ n). ap (λ (x : ℕ). get_or s x 0) e ∙ here (ap lost (sym e) ∙ k) ∙ ap (λ (x : ℕ). get_or r x 0) (sym e)) (λ (b : c < n). before c b k) (below_suc h)

test_known : (lost : ℕ → Bool) (r s : List ℕ) (n : ℕ) → has_known lost r s n ≡ true → Known lost r s n
unfolding has_known
test_known lost r s zero t = λ c h k. absurd (not-suc-le-zero h)
test_known lost r s (suc n) t = at (lost n) refl (eqb (get_or s n 0) (get_or r n 0)) refl t (test_known lost r s n)
  where
    at : (u : Bool) → lost n ≡ u → (v : Bool) → eqb (get_or s n 0) (get_or r n 0) ≡ v
        → cond u (has_known lost r s n) (cond v (has_known lost r s n) false) ≡ true → (has_known lost r s n ≡ true → Known lost r s n) → Known lost r s (suc n)
    at true p v q t ih = known_more lost r s n (λ k. differ (sym p ∙ k)) (ih t)
    at false p true q t ih = known_more lost r s n (λ k. eqb-true (get_or s n 0) (get_or r n 0) q) (ih t)
    at false p false q t ih = differ (sym t)

known_test : (lost : ℕ → Bool) (r s : List ℕ) (n : ℕ) → Known lost r s n → has_known lost r s n ≡ true
unfolding has_known
known_test lost r s zero k = refl
known_test lost r s (suc n) k = at (lost n) refl (known_test lost r s n (λ c h. k c (le_trans h (le-suc n))))
  where
    at : (u : Bool) → lost n ≡ u → has_known lost r s n ≡ true → cond u (has_known lost r s n) (cond (eqb (get_or s n 0) (get_or r n 0)) (has_known lost r s n) false) ≡ true
    at true p ih = ih
    at false p ih = ap (λ (v : Bool). cond v (has_known lost r s n) false) (eq-eqb (get_or s n 0) (get_or r n 0) (k n (le_refl (suc n)) p)) ∙ ih

test_fits : (lost : ℕ → Bool) (r s : List ℕ) → length s ≡ 255 → Bytes s → is_fit lost r s ≡ true → Fits lost r s
unfolding is_fit
test_fits lost r s e b t = at (has_known lost r s 255) refl t
  where
    at : (u : Bool) → has_known lost r s 255 ≡ u → cond u (all_zero (remainder 239 s)) false ≡ true → Fits lost r s
    at true p q = record {
      coded = remainder-coded s e b (all_zeros (remainder 239 s) q ∙ ap zeros (length-remainder 239 s e));
      known = test_known lost r s 255 p;
    }
    at false p q = differ (sym q)

fits_test : (lost : ℕ → Bool) (r s : List ℕ) → Fits lost r s → is_fit lost r s ≡ true
unfolding is_fit
fits_test lost r s f =
    ap (λ (u : Bool). cond u (all_zero (remainder 239 s)) false) (known_test lost r s 255 f.known) ∙ ap all_zero (coded-remainder s f.coded) ∙ zeros_all 16

-- ---- restoring is exact

pub restore_fits : (lost : ℕ → Bool) (r s : List ℕ) → restore_of lost r ≡ found s → Fits lost r s
unfolding restore_of
restore_fits lost r s e =
    let u : Sought 255 [] (is_fit lost r) s = seek_found 255 [] (is_fit lost r) s e in
    let w : s ≡ u.front = u.whole ∙ append-nil u.front in
    test_fits lost r s (ap length w ∙ u.sized) (rw w u.bytes) u.passes

fits-some : (lost : ℕ → Bool) (r s : List ℕ) → Fits lost r s → (t : List ℕ) × (restore_of lost r ≡ found t)
unfolding restore_of
fits-some lost r s f =
    seek-some 255 [] (is_fit lost r) s f.coded.sized f.coded.bytes (ap (is_fit lost r) (append-nil s) ∙ fits_test lost r s f)

pub restore_found : (lost : ℕ → Bool) (r s : List ℕ) → lost_of lost 255 ≤ 16 → Fits lost r s → restore_of lost r ≡ found s
restore_found lost r s few f =
    let u = fits-some lost r s f in u.1 ∙ ap found (only_one lost r u.0 s few (restore_fits lost r u.0 u.1) f)

pub restore_none : (lost : ℕ → Bool) (r : List ℕ) → ((s : List ℕ) → Fits lost r s → ⊥) → restore_of lost r ≡ none
restore_none lost r h = at (restore_of lost r) refl
  where
    at : (a : Repaired) → restore_of lost r ≡ a → a ≡ none
    at (found s) q = absurd (h s (restore_fits lost r s q))
    at none q = refl

pub none-fits : (lost : ℕ → Bool) (r : List ℕ) → restore_of lost r ≡ none → (s : List ℕ) → Fits lost r s → ⊥
none-fits lost r q s f =
    let p : (t : List ℕ) × (restore_of lost r ≡ found t) = fits-some lost r s f in
    let e : none ≡ found p.0 = sym q ∙ p.1 in
    let z : ◌≡◌ {A = ℕ} 0 1 = cc in
    omega arith

pub restore_exact : RestoreIsExact
restore_exact =
    record {
      sound = λ lost r s e b few q. restore_fits lost r s q;
      complete = λ lost r s e b few f. restore_found lost r s few f;
      refusing = λ lost r e b few q. none-fits lost r q;
      refused = λ lost r e b few h. restore_none lost r h;
    }

-- a coded row is restored to itself
pub restore_coded : (lost : ℕ → Bool) (r : List ℕ) → lost_of lost 255 ≤ 16 → Coded r → restore_of lost r ≡ found r
restore_coded lost r few c = restore_found lost r r few (record { coded = c; known = λ k h e. refl })

-- ---- what is lost does not count

known_same : (lost lost' : ℕ → Bool) (r r' s : List ℕ) (n : ℕ) → ((c : ℕ) → c < n → lost c ≡ lost' c) → ((c : ℕ) → c < n → lost c ≡ false → get_or r c 0 ≡ get_or r' c 0)
    → has_known lost r s n ≡ has_known lost' r' s n
unfolding has_known
known_same lost lost' r r' s zero e k = refl
known_same lost lost' r r' s (suc n) e k =
    at (lost n) refl (known_same lost lost' r r' s n (λ c h. e c (le_trans h (le-suc n))) (λ c h. k c (le_trans h (le-suc n))))
    ∙ ap (λ (u : Bool). cond u (has_known lost' r' s n) (cond (eqb (get_or s n 0) (get_or r' n 0)) (has_known lost' r' s n) false)) (e n (le_refl (suc n)))
  where
    at : (u : Bool) → lost n ≡ u → has_known lost r s n ≡ has_known lost' r' s n
        → cond u (has_known lost r s n) (cond (eqb (get_or s n 0) (get_or r n 0)) (has_known lost r s n) false)
        ≡ cond u (has_known lost' r' s n) (cond (eqb (get_or s n 0) (get_or r' n 0)) (has_known lost' r' s n) false)
    at true p ih = ih
    at false p ih = ap₂ (λ (x : ℕ) (b : Bool). cond (eqb (get_or s n 0) x) b false) (k n (le_refl (suc n)) p) ih

pub restore_same : (lost lost' : ℕ → Bool) (r r' : List ℕ) → ((c : ℕ) → c < 255 → lost c ≡ lost' c)
    → ((c : ℕ) → c < 255 → lost c ≡ false → get_or r c 0 ≡ get_or r' c 0) → restore_of lost r ≡ restore_of lost' r'
unfolding restore_of is_fit
restore_same lost lost' r r' e k =
    λ i. seek 255 [] (λ s. cond (known_same lost lost' r r' s 255 e k i) (all_zero (remainder 239 s)) false)

-- ---- wrong bytes

pub wrong_is_found : WrongIsFound
wrong_is_found lost wrong r s coded few agrees c l known wrong-there =
    restore_none lost r (λ t f.
    let same : t ≡ s = only_one (λ k. lost k || wrong k) s t s few
    (record { coded = f.coded; known = λ k h e. f.known k h (or_parts (lost k) (wrong k) e).0 ∙ agrees k h e })
    (record { coded = coded; known = λ k h e. refl }) in
    wrong-there (sym (f.known c l known) ∙ ap (λ (x : List ℕ). get_or x c 0) same))

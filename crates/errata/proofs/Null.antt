-- Why the vectors that are kept reduce any other to one that the eight runs annihilate: a kept vector takes away what its own run gives and leaves the runs before at 0;
-- each is kept at a run of its own, so that at most eight are. The runs of a vector are carried along with it, since they are linear; nothing is divided.
-- Assumes nothing.
use mathlib.Core.Path.{◌≡◌, refl, sym, ap, ap₂, subst, ◌∙◌}
use mathlib.Core.Logic.{◌≢◌, ⊎_elim}
use mathlib.Core.Bool.{Bool, true, false, cond}
use mathlib.Core.List.{List, [], ◌∷◌}
use Prim.Native.Nat.{ℕ, zero, suc, ◌+◌, ◌-◌, ◌≤◌, ◌<◌, zero-le, suc-le-suc}
use native.Mathlib.Nat.{le_refl, le_trans, le-suc, add-zero, le_of_suc-le-suc, not-suc-le-zero}
use native.Mathlib.Numerals.{add-one}
use native.Mathlib.Omega.{arith}
use borrow.Author.Tests.{eq-eqb, ne_eqb}
use lib.Dec.{eqb}
use lib.ListN.{length, get_or, set, replicate, length-set, get_or-eq_default}
use lib.Seq.{get_or-set_same, get_or-set_other}
use Rattle.std.proofs.lemmas.Bool.{cases_lt, cases_eq}
use Rattle.ground.specs.Bits.{sum}
use Rattle.ground.proofs.Sums.{sum_self, sum_zero, zero_sum}
use Rattle.field.specs.Field.{product}
use Rattle.field.proofs.Laws.{product-byte, product_comm, product_zero, product_one, zero_product, zero_divisor, ring}
use Rattle.code.specs.Total.{total}
use Rattle.errata.specs.InnerSums.{run_of}
use Rattle.errata.specs.InnerNull.{Short, Passed}
use Rattle.ground.proofs.Numbers.{below_suc}
use Rattle.ground.proofs.Listed.{zeros_at}
use Rattle.code.proofs.Totals.{total_ext, total-more, total_first, total-sum, total-product, total-byte}

-- r is p · v + d · q
pub record Mixed (p d : ℕ) (v q r : List ℕ) : Type 0 where
  pub sized : length r ≡ 9
  pub entry : (m : ℕ) → get_or r m 0 ≡ sum (product p (get_or v m 0)) (product d (get_or q m 0))

-- r is x · v, less the ninth power
pub record Shifted (v r : List ℕ) : Type 0 where
  pub sized : length r ≡ 9
  pub first : get_or r 0 0 ≡ 0
  pub next : (m : ℕ) → m < 8 → get_or r (suc m) 0 ≡ get_or v m 0

-- t has the sixteen runs of v
abbrev pub Runs : List ℕ → List ℕ → (ℕ → ℕ) → Type 0
Runs s v t = (k : ℕ) → k < 16 → t k ≡ run_of v s k 9

-- q is kept for run i with its runs u: the runs before annihilate it, and run i gives p
pub record Kept (s : List ℕ) (n i : ℕ) (q : List ℕ) (u : ℕ → ℕ) (p : ℕ) : Type 0 where
  pub short : Short n q
  pub passed : Passed s i q
  pub runs : Runs s q u
  pub pivot : p ≡ run_of q s i 9

-- how many entries are not 0
unfoldable pub filled : List ℕ → ℕ
filled [] = zero
filled (x ∷ xs) = cond (eqb x 0) (filled xs) (suc (filled xs))

-- n vectors are kept, each at the run that did not annihilate it; the pivot of a run that has none is 0
pub record Basis (s : List ℕ) (n : ℕ) (vectors : ℕ → List ℕ) (runs : ℕ → ℕ → ℕ) (pivots : List ℕ) : Type 0 where
  pub sized : length pivots ≡ 8
  pub count : filled pivots ≡ n
  pub kept : (i : ℕ) → i < 8 → get_or pivots i 0 ≢ 0 → Kept s n i (vectors i) (runs i) (get_or pivots i 0)

-- v has its leading entry at l, the runs t, and the runs before run i annihilate it
pub record Reducing (s : List ℕ) (l i : ℕ) (v : List ℕ) (t : ℕ → ℕ) : Type 0 where
  pub within : i ≤ 8
  pub short : Short (suc l) v
  pub leading : get_or v l 0 ≢ 0
  pub passed : Passed s i v
  pub runs : Runs s v t

run-byte : (v s : List ℕ) (j n : ℕ) → run_of v s j n < 256
unfolding run_of
run-byte v s j n = total-byte n (λ m. product (get_or v m 0) (get_or s (j + m) 0)) (λ m h. product-byte (get_or v m 0) (get_or s (j + m) 0))

-- ---- p · v + d · q

split : (p d v q s : ℕ) → product (sum (product p v) (product d q)) s ≡ sum (product p (product v s)) (product d (product q s))
split p d v q s = simp ring

run_mixed : (p d : ℕ) (v q r s : List ℕ) (k : ℕ) → Mixed p d v q r → run_of r s k 9 ≡ sum (product p (run_of v s k 9)) (product d (run_of q s k 9))
unfolding run_of
run_mixed p d v q r s k mixed =
    let f : ℕ → ℕ = λ m. product (get_or v m 0) (get_or s (k + m) 0) in
    let g : ℕ → ℕ = λ m. product (get_or q m 0) (get_or s (k + m) 0) in
    total_ext 9 (λ m. product (get_or r m 0) (get_or s (k + m) 0)) (λ m. sum (product p (f m)) (product d (g m)))
    (λ m h. ap (λ (x : ℕ). product x (get_or s (k + m) 0)) (mixed.entry m) ∙ split p d (get_or v m 0) (get_or q m 0) (get_or s (k + m) 0))
    ∙ total-sum 9 (λ m. product p (f m)) (λ m. product d (g m))
    ∙ ap₂ sum (total-product 9 p f) (total-product 9 d g)

-- nothing of the one and nothing of the other
none : (p d : ℕ) {a b : ℕ} → a ≡ 0 → b ≡ 0 → sum (product p a) (product d b) ≡ 0
none p d e f = ap₂ (λ (a b : ℕ). sum (product p a) (product d b)) e f ∙ ap₂ sum (product_zero p) (product_zero d) ∙ zero_sum 0

-- what both give at the run of q, taken away
cancel : (p d : ℕ) {a b : ℕ} → a ≡ d → b ≡ p → sum (product p a) (product d b) ≡ 0
cancel p d e f = ap₂ (λ (a b : ℕ). sum (product p a) (product d b)) e f ∙ ap (sum (product p d)) (product_comm d p) ∙ sum_self (product p d)

-- a factor and a leading entry that are not 0
some : (p : ℕ) {a b r : ℕ} (d : ℕ) → r ≡ sum (product p a) (product d b) → b ≡ 0 → p < 256 → a < 256 → p ≢ 0 → a ≢ 0 → r ≢ 0
some p {a} d e f hp ha np na z =
    ⊎_elim np na (zero_divisor p a hp ha (sym (sum_zero (product p a)) ∙ ap (sum (product p a)) (sym (ap (product d) f ∙ product_zero d)) ∙ sym e ∙ z))

module _ (s : List ℕ) (l i : ℕ) (v : List ℕ) (t : ℕ → ℕ) (inside : i < 8) (red : Reducing s l i v t) where
  next : (r : List ℕ) → ((k : ℕ) → k < i → run_of r s k 9 ≡ 0) → run_of r s i 9 ≡ 0 → Passed s (i + 1) r
  next r low here =
      rw (add-one i) (λ k h. ⊎_elim (λ (e : k ≡ i). ap (λ (x : ℕ). run_of r s x 9) e ∙ here) (λ (m : k < i). low k m) (below_suc h))

  -- the run annihilates v as it is
  pub reducing_skip : t i ≡ 0 → Reducing s l (i + 1) v t
  reducing_skip z =
      record {
        within = omega arith;
        short = red.short;
        leading = red.leading;
        passed = next v red.passed (sym (red.runs i (omega arith)) ∙ z);
        runs = red.runs;
      }

  -- the vector that is kept for the run takes away what the run gives
  pub reducing_mixed : (q r : List ℕ) (u w : ℕ → ℕ) (p d : ℕ) → Kept s l i q u p → p ≢ 0 → d ≡ t i → get_or v l 0 < 256 → Mixed p d v q r
      → ((k : ℕ) → k < 16 → w k ≡ sum (product p (t k)) (product d (u k))) → Reducing s l (i + 1) r w
  reducing_mixed q r u w p d kept n e byte mixed run =
      record {
        within = omega arith;
        short =
            record {
              sized = mixed.sized;
              above = λ m h. mixed.entry m ∙ none p d (red.short.above m h) (kept.short.above m (omega arith));
            };
        leading = some p d (mixed.entry l) (kept.short.above l (le_refl l)) (rw kept.pivot (run-byte q s i 9)) byte n red.leading;
        passed =
            next r (λ k h. run_mixed p d v q r s k mixed ∙ none p d (red.passed k h) (kept.passed k h))
            (run_mixed p d v q r s i mixed ∙ cancel p d (sym (red.runs i (omega arith)) ∙ sym e) (sym kept.pivot));
        runs =
            λ k h. run k h ∙ ap₂ (λ (a b : ℕ). sum (product p a) (product d b)) (red.runs k h) (kept.runs k h) ∙ sym (run_mixed p d v q r s k mixed);
      }

-- ---- one vector more is kept

filled-set : (xs : List ℕ) (i x : ℕ) → i < length xs → get_or xs i 0 ≡ 0 → x ≢ 0 → filled (set xs i x) ≡ suc (filled xs)
unfolding filled
filled-set [] i x h z n = absurd (not-suc-le-zero h)
filled-set (y ∷ ys) zero x h z n =
    ap (λ (b : Bool). cond b (filled ys) (suc (filled ys))) (ne_eqb x 0 n)
    ∙ ap (λ (b : Bool). suc (cond b (filled ys) (suc (filled ys)))) (sym (eq-eqb y 0 z))
filled-set (y ∷ ys) (suc i) x h z n =
    ap (λ (k : ℕ). cond (eqb y 0) k (suc k)) (filled-set ys i x (le_of_suc-le-suc h) z n) ∙ out (eqb y 0)
  where
    out : (b : Bool) → cond b (suc (filled ys)) (suc (suc (filled ys))) ≡ suc (cond b (filled ys) (suc (filled ys)))
    out true = refl
    out false = refl

filled-few : (xs : List ℕ) → filled xs ≤ length xs
unfolding filled
filled-few [] = zero-le
filled-few (x ∷ xs) = pick (eqb x 0) (filled-few xs)
  where
    pick : (b : Bool) → filled xs ≤ length xs → cond b (filled xs) (suc (filled xs)) ≤ suc (length xs)
    pick true h = le_trans h (le-suc (length xs))
    pick false h = suc-le-suc h

-- at most eight are kept
pub basis_few : {s : List ℕ} {n : ℕ} {vectors : ℕ → List ℕ} {runs : ℕ → ℕ → ℕ} {pivots : List ℕ} → Basis s n vectors runs pivots → n ≤ 8
basis_few {pivots = pivots} basis = let a : filled pivots ≤ length pivots = filled-few pivots in omega (arith, basis.count, basis.sized)

pub basis_start : (s : List ℕ) (vectors : ℕ → List ℕ) (runs : ℕ → ℕ → ℕ) → Basis s 0 vectors runs (replicate 8 0)
unfolding filled
basis_start s vectors runs = record { sized = refl; count = refl; kept = λ i h n. absurd (n (zeros_at 8 i)) }

module _ {s : List ℕ} {n : ℕ} {vectors : ℕ → List ℕ} {runs : ℕ → ℕ → ℕ} {pivots : List ℕ} (basis : Basis s n vectors runs pivots) (i : ℕ) (inside : i < 8)
    (free : get_or pivots i 0 ≡ 0) where
  -- where there is a free run there are not yet eight
  pub more-few : n < 8
  more-few =
      let long : length pivots ≡ 8 = basis.sized in
      let e : filled (set pivots i 1) ≡ suc n = filled-set pivots i 1 (omega arith) free (λ z. omega arith) ∙ ap suc basis.count in
      omega (arith, filled-few (set pivots i 1), length-set pivots i 1)

  -- v is kept at the free run i; the others are kept as they were
  pub basis_more : (v : List ℕ) (t : ℕ → ℕ) (p : ℕ) (vectors' : ℕ → List ℕ) (runs' : ℕ → ℕ → ℕ) → Reducing s n i v t → p ≢ 0 → p ≡ t i → vectors' i ≡ v → runs' i ≡ t
      → ((k : ℕ) → (k ≡ i → ⊥) → vectors' k ≡ vectors k) → ((k : ℕ) → (k ≡ i → ⊥) → runs' k ≡ runs k) → Basis s (n + 1) vectors' runs' (set pivots i p)
  basis_more v t p vectors' runs' red some e v-here t-here v-other t-other =
      let long : length pivots ≡ 8 = basis.sized in
      record {
        sized = length-set pivots i p ∙ long;
        count = filled-set pivots i p (omega arith) free some ∙ ap suc basis.count ∙ sym (add-one n);
        kept = λ k b nz. ⊎_elim (here k) (other k b nz) (cases_eq k i);
      }
    where
      here : (k : ℕ) → k ≡ i → Kept s (n + 1) k (vectors' k) (runs' k) (get_or (set pivots i p) k 0)
      here k is =
          let long : length pivots ≡ 8 = basis.sized in
          subst (λ (x : ℕ). Kept s (n + 1) x (vectors' x) (runs' x) (get_or (set pivots i p) x 0)) (sym is)
          (rw (add-one n, v-here, t-here, get_or-set_same pivots i p 0 (omega arith))
          (record { short = red.short; passed = red.passed; runs = red.runs; pivot = e ∙ red.runs i (omega arith) }))

      other : (k : ℕ) → k < 8 → get_or (set pivots i p) k 0 ≢ 0 → (k ≡ i → ⊥) → Kept s (n + 1) k (vectors' k) (runs' k) (get_or (set pivots i p) k 0)
      other k b nz ne =
          let old : get_or (set pivots i p) k 0 ≡ get_or pivots k 0 = get_or-set_other pivots i k p 0 ne in
          let was : Kept s n k (vectors k) (runs k) (get_or pivots k 0) = basis.kept k b (λ z. nz (old ∙ z)) in
          rw (add-one n, v-other k ne, t-other k ne, old)
          (record {
            short = record { sized = was.short.sized; above = λ m h. was.short.above m (omega arith) };
            passed = was.passed;
            runs = was.runs;
            pivot = was.pivot;
          })

-- ---- x · v: run k of it is run k + 1 of v

run_shifted : (v r s : List ℕ) (k : ℕ) → Short 8 v → Shifted v r → run_of r s k 9 ≡ run_of v s (k + 1) 9
unfolding run_of
run_shifted v r s k short sh =
    let f : ℕ → ℕ = λ m. product (get_or r m 0) (get_or s (k + m) 0) in
    let g : ℕ → ℕ = λ m. product (get_or v m 0) (get_or s (k + 1 + m) 0) in
    total_first 8 f
    ∙ ap₂ sum (ap (λ (x : ℕ). product x (get_or s (k + 0) 0)) sh.first ∙ zero_product (get_or s (k + 0) 0))
    (total_ext 8 (λ m. f (suc m)) g (λ m h. ap₂ (λ (a b : ℕ). product a (get_or s b 0)) (sh.next m h) (step m)))
    ∙ zero_sum (total 8 g)
    ∙ sym (total-more 8 1 g (λ m l h. ap (λ (x : ℕ). product x (get_or s (k + 1 + m) 0)) (short.above m l) ∙ zero_product (get_or s (k + 1 + m) 0)))
  where
    step : (m : ℕ) → k + suc m ≡ k + 1 + m
    step m = omega arith

-- there is nothing behind the sixteen syndromes
run-behind : (v s : List ℕ) → length s ≡ 16 → run_of v s 16 9 ≡ 0
unfolding run_of total
run-behind v s long =
    total-more 0 9 (λ m. product (get_or v m 0) (get_or s (16 + m) 0))
    (λ m l h. ap (product (get_or v m 0)) (get_or-eq_default s 0 (omega arith)) ∙ product_zero (get_or v m 0))

-- the next vector begins as x times the one that was kept for run i; the runs before run i - 1 annihilate it
pub reducing_shifted : (s : List ℕ) (l i : ℕ) (v r : List ℕ) (t w : ℕ → ℕ) → length s ≡ 16 → l < 8 → Reducing s l i v t → Shifted v r
    → ((k : ℕ) → k < 15 → w k ≡ t (k + 1)) → w 15 ≡ 0 → Reducing s (l + 1) (i - 1) r w
reducing_shifted s l i v r t w long inside red sh run last =
    record {
      within = omega (arith, red.within);
      short = record { sized = sh.sized; above = above };
      leading = λ z. red.leading (sym (ap (λ (x : ℕ). get_or r x 0) (add-one l) ∙ sh.next l inside) ∙ z);
      passed = λ k h. run_shifted v r s k low sh ∙ red.passed (k + 1) (omega arith);
      runs =
          λ k h. ⊎_elim
          (λ (e : k ≡ 15). subst (λ (x : ℕ). w x ≡ run_of r s x 9) (sym e) (last ∙ sym (run_shifted v r s 15 low sh ∙ run-behind v s long)))
          (λ (m : k < 15). run k m ∙ red.runs (k + 1) (omega arith) ∙ sym (run_shifted v r s k low sh)) (below_suc h);
    }
  where
    low : Short 8 v
    low = record { sized = red.short.sized; above = λ m h. red.short.above m (omega arith) }

    above : (m : ℕ) → suc (l + 1) ≤ m → get_or r m 0 ≡ 0
    above m h =
        ⊎_elim
        (λ (b : m < 9).
        let e : suc (m - 1) ≡ m = omega arith in
        ap (λ (x : ℕ). get_or r x 0) (sym e) ∙ sh.next (m - 1) (omega arith) ∙ red.short.above (m - 1) (omega arith))
        (λ (b : 9 ≤ m). get_or-eq_default r 0 (let n : length r ≡ 9 = sh.sized in omega arith))
        (cases_lt m 9)

-- ---- the first vector is 1, and its runs are the syndromes

pub run_unit : (v s : List ℕ) (k : ℕ) → ((i : ℕ) → get_or s i 0 < 256) → get_or v 0 0 ≡ 1 → Short 1 v → run_of v s k 9 ≡ get_or s k 0
unfolding run_of total
run_unit v s k byte one short =
    let f : ℕ → ℕ = λ m. product (get_or v m 0) (get_or s (k + m) 0) in
    total-more 1 8 f (λ m l h. ap (λ (x : ℕ). product x (get_or s (k + m) 0)) (short.above m l) ∙ zero_product (get_or s (k + m) 0))
    ∙ zero_sum (f 0) ∙ ap₂ product one (ap (λ (x : ℕ). get_or s x 0) (add-zero k)) ∙ product_one (get_or s k 0) (byte k)

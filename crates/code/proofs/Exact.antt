-- Repair is exact (document 01, section 3, and demand 2): the search meets every list of 255 bytes, so it finds a coded row within eight places if there is one, and there is at most one (`near_unique`).
-- The laws of the search are stated over its length; nothing here computes it.
-- Assumes nothing.
use mathlib.Core.Path.{◌≡◌, refl, sym, ap, ap₂, ◌∙◌}
use mathlib.Core.Logic.{⊎_elim}
use mathlib.Core.Bool.{Bool, true, false, cond}
use mathlib.Core.List.{List, [], ◌∷◌, ◌++◌, append_assoc, append-nil}
use Prim.Native.Nat.{ℕ, zero, suc, ◌<◌}
use native.Mathlib.Nat.{le_of_suc-le-suc, not-suc-le-zero, eq-or-lt_of_le, le-suc, le_refl, lt_of_lt_of_le}
use native.Mathlib.Omega.{arith}
use lib.Dec.{eqb, leb}
use lib.ListN.{length, get_or, take, length-append}
use lib.Seq.{take-suc, take_all, length-take-le}
use borrow.Author.Tests.{leb-true, le-leb, eqb-true}
use Rattle.code.specs.Code.{Bytes, Coded, distance}
use Rattle.code.specs.Search.{Repaired, remainder, all_zero, is_near, or_else, first_of, seek}
use Rattle.code.specs.Search.Repaired.{found, none}
use Rattle.code.specs.Repair.{Near, Exact, repair_of, RepairIsExact}
use Rattle.code.proofs.Lists.{zeros, bytes_nil, bytes_cons, bytes_at_lem, append-bytes, bytes-parts}
use Rattle.code.proofs.Division.{length-remainder, coded-remainder, remainder-coded}
use Rattle.code.proofs.Distance.{near_unique, coded-near_itself}

-- ---- the first of f 0 .. f (n - 1) that is not none

-- what it answers, one of them answers
first_found : (n : ℕ) (f : ℕ → Repaired) (s : List ℕ) → first_of n f ≡ found s → (b : ℕ) × (b < n) × (f b ≡ found s)
unfolding first_of
first_found zero f s e = let z : ◌≡◌ {A = ℕ} 0 1 = cc in absurd (omega arith)
first_found (suc n) f s e = at (f n) refl e (first_found n f s)
  where
    at : (a : Repaired) → f n ≡ a → or_else a (first_of n f) ≡ found s → (first_of n f ≡ found s → (b : ℕ) × (b < n) × (f b ≡ found s))
        → (b : ℕ) × (b < suc n) × (f b ≡ found s)
    at (found t) p q ih = (n, le_refl (suc n), p ∙ q)
    at none p q ih = let t = ih q in (t.0, lt_of_lt_of_le t.1 (le-suc n), t.2)

-- where one answers, it does
first_some : (n : ℕ) (f : ℕ → Repaired) (b : ℕ) (s : List ℕ) → b < n → f b ≡ found s → (t : List ℕ) × (first_of n f ≡ found t)
unfolding first_of
first_some zero f b s h e = absurd (not-suc-le-zero h)
first_some (suc n) f b s h e = at (f n) refl (λ l. first_some n f b s l e)
  where
    at : (a : Repaired) → f n ≡ a → (b < n → (t : List ℕ) × (first_of n f ≡ found t)) → (t : List ℕ) × (or_else a (first_of n f) ≡ found t)
    at (found t) p ih = (t, refl)
    at none p ih =
        ⊎_elim (λ (q : b ≡ n). let z : ◌≡◌ {A = ℕ} 0 1 = cc (ap f q) in absurd (omega arith)) ih (eq-or-lt_of_le (le_of_suc-le-suc h))

-- ---- the search

-- what it answers passes, and is n bytes before l
pub record Sought (n : ℕ) (l : List ℕ) (f : List ℕ → Bool) (s : List ℕ) : Type 0 where
  pub passes : f s ≡ true
  pub front : List ℕ
  pub sized : length front ≡ n
  pub bytes : Bytes front
  pub whole : s ≡ front ++ l

pub seek_found : (n : ℕ) (l : List ℕ) (f : List ℕ → Bool) (s : List ℕ) → seek n l f ≡ found s → Sought n l f s
unfolding seek
seek_found zero l f s e = at (f l) refl e
  where
    at : (b : Bool) → f l ≡ b → cond b (found l) none ≡ found s → Sought zero l f s
    at true p q =
        let w : l ≡ s = cc in record { passes = ap f (sym w) ∙ p; front = []; sized = refl; bytes = bytes_nil; whole = sym w }
    at false p q = let z : ◌≡◌ {A = ℕ} 0 1 = cc in absurd (omega arith)
seek_found (suc n) l f s e =
    let t = first_found 256 (λ b. seek n (b ∷ l) f) s e in
    let u : Sought n (t.0 ∷ l) f s = seek_found n (t.0 ∷ l) f s t.2 in
    let m : length u.front ≡ n = u.sized in
    record {
      passes = u.passes;
      front = u.front ++ (t.0 ∷ []);
      sized = length-append u.front (t.0 ∷ []) ∙ omega arith;
      bytes = append-bytes u.front (t.0 ∷ []) u.bytes (bytes_cons t.0 [] t.1 bytes_nil);
      whole = u.whole ∙ sym (append_assoc u.front (t.0 ∷ []) l);
    }

-- where n bytes before l pass, it answers
pub seek-some : (n : ℕ) (l : List ℕ) (f : List ℕ → Bool) (p : List ℕ) → length p ≡ n → Bytes p → f (p ++ l) ≡ true → (t : List ℕ) × (seek n l f ≡ found t)
unfolding seek
seek-some zero l f [] e b q = (l, ap (λ (t : Bool). cond t (found l) none) q)
seek-some zero l f (x ∷ p) e b q = absurd (omega arith)
seek-some (suc n) l f p e b q =
    let c : ℕ = get_or p n 0 in
    let w : p ≡ take n p ++ (c ∷ []) = sym (take_all (suc n) p (omega arith)) ∙ take-suc p n 0 (omega arith) in
    let u = seek-some n (c ∷ l) f (take n p) (length-take-le n p (omega arith)) (bytes-parts (take n p) (c ∷ []) (rw w at b)).0 (sym (ap f (ap (λ (k : List ℕ). k ++ l) w ∙ append_assoc (take n p) (c ∷ []) l)) ∙ q) in
    first_some 256 (λ b. seek n (b ∷ l) f) c u.0 (bytes_at_lem p b n) u.1

-- ---- the test

pub all_zeros : (l : List ℕ) → all_zero l ≡ true → l ≡ zeros (length l)
all_zeros [] e = refl
all_zeros (x ∷ l) e = at (eqb x 0) refl e (all_zeros l)
  where
    at : (b : Bool) → eqb x 0 ≡ b → cond b (all_zero l) false ≡ true → (all_zero l ≡ true → l ≡ zeros (length l)) → ◌≡◌ {A = List ℕ} (x ∷ l) (0 ∷ zeros (length l))
    at true p q ih = ap₂ ◌∷◌ (eqb-true x 0 p) (ih q)
    at false p q ih = let z : ◌≡◌ {A = ℕ} 0 1 = cc in absurd (omega arith)

pub zeros_all : (n : ℕ) → all_zero (zeros n) ≡ true
zeros_all zero = refl
zeros_all (suc n) = zeros_all n

pub test_near : (r s : List ℕ) → length s ≡ 255 → Bytes s → is_near r s ≡ true → Near r s
unfolding is_near
test_near r s e b t = at (leb (distance r s) 8) refl t
  where
    at : (u : Bool) → leb (distance r s) 8 ≡ u → cond u (all_zero (remainder 239 s)) false ≡ true → Near r s
    at true p q = record {
      coded = remainder-coded s e b (all_zeros (remainder 239 s) q ∙ ap zeros (length-remainder 239 s e));
      close = leb-true (distance r s) 8 p;
    }
    at false p q = let z : ◌≡◌ {A = ℕ} 0 1 = cc in absurd (omega arith)

pub near_test : (r s : List ℕ) → Near r s → is_near r s ≡ true
unfolding is_near
near_test r s n =
    ap (λ (u : Bool). cond u (all_zero (remainder 239 s)) false) (le-leb (distance r s) 8 n.close)
    ∙ ap all_zero (coded-remainder s n.coded) ∙ zeros_all 16

-- ---- repair is exact

pub repair-near : (r s : List ℕ) → repair_of r ≡ found s → Near r s
unfolding repair_of
repair-near r s e =
    let u : Sought 255 [] (is_near r) s = seek_found 255 [] (is_near r) s e in
    let w : s ≡ u.front = u.whole ∙ append-nil u.front in
    test_near r s (ap length w ∙ u.sized) (rw w u.bytes) u.passes

near-some : (r s : List ℕ) → Near r s → (t : List ℕ) × (repair_of r ≡ found t)
unfolding repair_of
near-some r s n =
    seek-some 255 [] (is_near r) s n.coded.sized n.coded.bytes (ap (is_near r) (append-nil s) ∙ near_test r s n)

pub repair-found : (r s : List ℕ) → length r ≡ 255 → Bytes r → Near r s → repair_of r ≡ found s
repair-found r s e b n =
    let u = near-some r s n in u.1 ∙ ap found (near_unique r u.0 s e (repair-near r u.0 u.1) n)

pub repair-none : (r : List ℕ) → length r ≡ 255 → Bytes r → ((s : List ℕ) → Near r s → ⊥) → repair_of r ≡ none
repair-none r e b h = at (repair_of r) refl
  where
    at : (a : Repaired) → repair_of r ≡ a → a ≡ none
    at (found s) q = absurd (h s (repair-near r s q))
    at none q = refl

pub none-near : (r : List ℕ) → length r ≡ 255 → Bytes r → repair_of r ≡ none → (s : List ℕ) → Near r s → ⊥
none-near r e b q s n =
    let p : repair_of r ≡ found s = repair-found r s e b n in
    let z : ◌≡◌ {A = ℕ} 0 1 = cc in
    omega arith

pub repair_exact : RepairIsExact
repair_exact =
    record { sound = λ r s e b q. repair-near r s q; complete = repair-found; refusing = none-near; refused = repair-none }

pub repair-coded : (r : List ℕ) → Coded r → repair_of r ≡ found r
repair-coded r c = repair-found r r c.sized c.bytes (coded-near_itself r c)

-- there is one exact repair only
pub exact_unique : (f g : List ℕ → Repaired) → Exact f → Exact g → (r : List ℕ) → length r ≡ 255 → Bytes r → f r ≡ g r
exact_unique f g p q r e b = at (f r) refl
  where
    at : (a : Repaired) → f r ≡ a → a ≡ g r
    at (found s) z = sym (q.complete r s e b (p.sound r s e b z))
    at none z = sym (q.refused r e b (p.refusing r e b z))

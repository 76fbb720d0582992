-- Distance (document 01, section 3, and demand 2): at how many places two rows differ. It is the number of bytes of their sum that are not zero; so two coded rows, whose sum is nothing at sixteen points, are
-- equal where they differ in at most sixteen places, and at most one coded row is within eight places of a row.
-- Assumes nothing.
use mathlib.Core.Path.{◌≡◌, refl, sym, ap, ap₂, ◌∙◌, subst}
use mathlib.Core.Bool.{Bool, true, false, cond}
use mathlib.Core.List.{List, [], ◌∷◌}
use Prim.Native.Nat.{ℕ, zero, suc, ◌+◌, ◌≤◌, ◌<◌, zero-le, suc-le-suc}
use native.Mathlib.Nat.{le_trans, le-suc, zero-lt-suc}
use native.Mathlib.Omega.{arith}
use lib.Dec.{eqb}
use lib.ListN.{length, get_or, set}
use borrow.Author.Tests.{eqb-true, eqb-false, eq-eqb, ne_eqb}
use Rattle.ground.specs.Bits.{sum}
use Rattle.ground.proofs.Sums.{sum_self, zero_sum, sum_cancel}
use Rattle.field.specs.Field.{power}
use Rattle.code.specs.Code.{add, Coded, distance}
use Rattle.code.specs.Repair.{Near}
use Rattle.code.proofs.Lists.{zeros, add-bytes, length-add, add_same}
use Rattle.code.proofs.Weights.{terms, weight, values_zeros}
use Rattle.code.proofs.Values.{value-add, coded-values}

-- ---- zero exactly if equal, either way round, triangle

pub distance_self : (a : List ℕ) → distance a a ≡ 0
unfolding distance
distance_self [] = refl
distance_self (x ∷ a) = ap (λ (b : Bool). cond b (distance a a) (suc (distance a a))) (eq-eqb x x refl) ∙ distance_self a

pub distance_zero : (a b : List ℕ) → length a ≡ length b → distance a b ≡ 0 → a ≡ b
unfolding distance
distance_zero [] [] e z = refl
distance_zero [] (y ∷ b) e z = absurd (omega arith)
distance_zero (x ∷ a) [] e z = absurd (omega arith)
distance_zero (x ∷ a) (y ∷ b) e z = at (eqb x y) refl z (distance_zero a b (omega arith))
  where
    at : (t : Bool) → eqb x y ≡ t → cond t (distance a b) (suc (distance a b)) ≡ 0 → (distance a b ≡ 0 → a ≡ b) → ◌≡◌ {A = List ℕ} (x ∷ a) (y ∷ b)
    at true p q ih = ap₂ ◌∷◌ (eqb-true x y p) (ih q)
    at false p q ih = absurd (omega arith)

eqb_sym : (x y : ℕ) → eqb x y ≡ eqb y x
eqb_sym x y = at (eqb x y) refl
  where
    at : (t : Bool) → eqb x y ≡ t → t ≡ eqb y x
    at true p = sym (eq-eqb y x (sym (eqb-true x y p)))
    at false p = sym (ne_eqb y x (λ e. eqb-false x y p (sym e)))

pub distance_sym : (a b : List ℕ) → distance a b ≡ distance b a
unfolding distance
distance_sym [] [] = refl
distance_sym [] (y ∷ b) = refl
distance_sym (x ∷ a) [] = refl
distance_sym (x ∷ a) (y ∷ b) = ap₂ (λ (t : Bool) (n : ℕ). cond t n (suc n)) (eqb_sym x y) (distance_sym a b)

pick : (r x y n a b : ℕ) → n ≤ a + b → cond (eqb x y) n (suc n) ≤ cond (eqb r x) a (suc a) + cond (eqb r y) b (suc b)
pick r x y n a b h = at (eqb x y) refl (eqb r x) refl (eqb r y) refl
  where
    at : (u : Bool) → eqb x y ≡ u → (v : Bool) → eqb r x ≡ v → (w : Bool) → eqb r y ≡ w → cond u n (suc n) ≤ cond v a (suc a) + cond w b (suc b)
    at true p true q true s = h
    at true p true q false s = omega arith
    at true p false q true s = omega arith
    at true p false q false s = omega arith
    at false p true q true s = absurd (eqb-false x y p (sym (eqb-true r x q) ∙ eqb-true r y s))
    at false p true q false s = omega arith
    at false p false q true s = omega arith
    at false p false q false s = omega arith

pub triangle : (r a b : List ℕ) → length r ≡ length a → length r ≡ length b → distance a b ≤ distance r a + distance r b
unfolding distance
triangle r [] b e f = zero-le
triangle r (x ∷ a) [] e f = zero-le
triangle [] (x ∷ a) (y ∷ b) e f = absurd (omega arith)
triangle (z ∷ r) (x ∷ a) (y ∷ b) e f = pick z x y (distance a b) (distance r a) (distance r b) (triangle r a b (omega arith) (omega arith))

-- ---- a row with changes

-- one byte changed
pub distance-set : (a b : List ℕ) (i v : ℕ) → distance a (set b i v) ≤ suc (distance a b)
unfolding distance
distance-set [] b i v = zero-le
distance-set (x ∷ a) [] i v = zero-le
distance-set (x ∷ a) (y ∷ b) zero v = at (eqb x v) (eqb x y)
  where
    at : (t u : Bool) → cond t (distance a b) (suc (distance a b)) ≤ suc (cond u (distance a b) (suc (distance a b)))
    at true true = omega arith
    at true false = omega arith
    at false true = omega arith
    at false false = omega arith
distance-set (x ∷ a) (y ∷ b) (suc i) v = at (eqb x y) (distance-set a b i v)
  where
    at : (t : Bool) → distance a (set b i v) ≤ suc (distance a b) → cond t (distance a (set b i v)) (suc (distance a (set b i v))) ≤ suc (cond t (distance a b) (suc (distance a b)))
    at true h = h
    at false h = suc-le-suc h

-- how many entries are not zero
unfoldable pub nonzeros : List ℕ → ℕ
nonzeros [] = zero
nonzeros (x ∷ a) = cond (eqb x 0) (nonzeros a) (suc (nonzeros a))

pub weight_nonzeros : (row : List ℕ) → weight (terms row) ≡ nonzeros row
unfolding weight terms nonzeros
weight_nonzeros [] = refl
weight_nonzeros (c ∷ cs) = ap (λ (n : ℕ). cond (eqb c 0) n (suc n)) (weight_nonzeros cs)

sum_test : (x y : ℕ) → eqb (sum x y) 0 ≡ eqb x y
sum_test x y = at (eqb x y) refl
  where
    at : (t : Bool) → eqb x y ≡ t → eqb (sum x y) 0 ≡ t
    at true p = eq-eqb (sum x y) 0 (ap (λ (k : ℕ). sum k y) (eqb-true x y p) ∙ sum_self y)
    at false p = ne_eqb (sum x y) 0 (λ e. eqb-false x y p (sum_cancel x y e))

pub nonzeros_add : (a b : List ℕ) → length a ≡ length b → nonzeros (add a b) ≡ distance a b
unfolding nonzeros add distance
nonzeros_add [] [] e = refl
nonzeros_add [] (y ∷ b) e = absurd (omega arith)
nonzeros_add (x ∷ a) [] e = absurd (omega arith)
nonzeros_add (x ∷ a) (y ∷ b) e = ap₂ (λ (t : Bool) (n : ℕ). cond t n (suc n)) (sum_test x y) (nonzeros_add a b (omega arith))

-- two rows that agree wherever nothing is marked
pub distance-marked : (a b marks : List ℕ) → length a ≡ length marks → ((i : ℕ) → i < length marks → get_or marks i 0 ≡ 0 → get_or a i 0 ≡ get_or b i 0)
    → distance a b ≤ nonzeros marks
unfolding distance nonzeros
distance-marked [] b marks e z = zero-le
distance-marked (x ∷ a) [] marks e z = zero-le
distance-marked (x ∷ a) (y ∷ b) [] e z = absurd (omega arith)
distance-marked (x ∷ a) (y ∷ b) (m ∷ marks) e z =
    at (eqb x y) refl (eqb m 0) refl (distance-marked a b marks (omega arith) (λ i h. z (suc i) (suc-le-suc h)))
  where
    at : (u : Bool) → eqb x y ≡ u → (v : Bool) → eqb m 0 ≡ v → distance a b ≤ nonzeros marks
        → cond u (distance a b) (suc (distance a b)) ≤ cond v (nonzeros marks) (suc (nonzeros marks))
    at true p true q h = h
    at true p false q h = le_trans h (le-suc (nonzeros marks))
    at false p true q h = absurd (eqb-false x y p (z 0 (zero-lt-suc (length marks)) (eqb-true m 0 q)))
    at false p false q h = suc-le-suc h

-- ---- coded rows lie far apart

pub coded_unique : (a b : List ℕ) → Coded a → Coded b → distance a b ≤ 16 → a ≡ b
coded_unique a b ca cb d =
    let e : length a ≡ length b = ca.sized ∙ sym cb.sized in
    let l : length (add a b) ≡ 255 = length-add a b (omega arith) ∙ cb.sized in
    let w : weight (terms (add a b)) ≤ 16 = subst (λ (n : ℕ). n ≤ 16) (sym (weight_nonzeros (add a b) ∙ nonzeros_add a b e)) d in
    add_same a b e
    (values_zeros 16 (add a b) (omega arith) (add-bytes a b ca.bytes cb.bytes) w
    (λ j h. value-add a b (power j) e ∙ ap₂ sum (coded-values a ca j h) (coded-values b cb j h) ∙ zero_sum 0)
    ∙ ap zeros (l ∙ sym ca.sized))

pub near_unique : (r a b : List ℕ) → length r ≡ 255 → Near r a → Near r b → a ≡ b
near_unique r a b e na nb =
    let t : distance a b ≤ distance r a + distance r b = triangle r a b (e ∙ sym na.coded.sized) (e ∙ sym nb.coded.sized) in
    coded_unique a b na.coded nb.coded (omega arith)

pub coded-near_itself : (r : List ℕ) → Coded r → Near r r
coded-near_itself r c = let z : distance r r ≡ 0 = distance_self r in record { coded = c; close = omega arith }

-- The powers of α in a row, each the double of the one before: a list that computes to the table of document 01, section 3, with its rule by induction.
-- Computed over it, once each: every byte but 0 stands among the first 255, and these differ.
-- Assumes nothing.
use mathlib.Core.Path.{◌≡◌, refl, sym, ap, subst, ◌∙◌}
use mathlib.Core.Logic.{⊎_elim}
use mathlib.Core.Bool.{Bool, true, false, ◌||◌, ◌&&◌, not}
use mathlib.Core.List.{List, [], ◌∷◌}
use Prim.Native.Nat.{ℕ, zero, suc, ◌+◌, ◌<◌, suc-le-suc}
use native.Mathlib.Nat.{add-zero, zero-add, add-suc, suc-add, zero-lt-suc, le_of_suc-le-suc, not-suc-le-zero}
use lib.Dec.{T, eqb, eqb→eq, eqb_refl, T_not}
use lib.ListN.{length, get_or}
use Rattle.ground.specs.Bits.{sum}
use Rattle.ground.proofs.Sweep.{below, and_left, and_right, or_left, or_right, or_cases}
use Rattle.field.specs.Field.{power}
use Rattle.field.specs.Tables.{Powers}
use Rattle.field.proofs.Horner.{double}
use Rattle.field.proofs.Exponents.{power_zero, power-suc}

-- n numbers from x on, each the double of the one before
abbrev pub chain : ℕ → ℕ → List ℕ
chain zero x = []
chain (suc n) x = x ∷ chain n (double x)

pub length_chain : (n x : ℕ) → length (chain n x) ≡ n
length_chain zero x = refl
length_chain (suc n) x = ap suc (length_chain n (double x))

get_or_from : (n k i : ℕ) → i < n → get_or (chain n (power k)) i 0 ≡ power (k + i)
get_or_from zero k i h = absurd (not-suc-le-zero h)
get_or_from (suc n) k zero h = ap power (sym (add-zero k))
get_or_from (suc n) k (suc i) h =
    ap (λ (x : ℕ). get_or (chain n x) i 0) (sym (power-suc k))
    ∙ get_or_from n (suc k) i (le_of_suc-le-suc h)
    ∙ ap power (suc-add k i ∙ sym (add-suc k i))

pub get_or_chain : (n i : ℕ) → i < n → get_or (chain n 1) i 0 ≡ power i
get_or_chain n i h = ap (λ (x : ℕ). get_or (chain n x) i 0) (sym power_zero) ∙ get_or_from n zero i h ∙ ap power (zero-add i)

-- the rule of the table
pub powers_rule : Powers (chain 256 1)
powers_rule = record { room = length_chain 256 1; entry = get_or_chain 256 }

-- ---- which numbers stand in a list

abbrev member : ℕ → List ℕ → Bool
member x [] = false
member x (y ∷ ys) = eqb x y || member x ys

member_at : (x : ℕ) (l : List ℕ) → T (member x l) → (i : ℕ) × (i < length l) × (get_or l i 0 ≡ x)
member_at x [] t = absurd t
member_at x (y ∷ ys) t =
    ⊎_elim (λ e. (zero, zero-lt-suc (length ys), sym (eqb→eq x y e)))
    (λ m. let q : (i : ℕ) × (i < length ys) × (get_or ys i 0 ≡ x) = member_at x ys m in (suc q.0, suc-le-suc q.1, q.2))
    (or_cases (eqb x y) (member x ys) t)

at_member : (l : List ℕ) (i : ℕ) → i < length l → T (member (get_or l i 0) l)
at_member [] i h = absurd (not-suc-le-zero h)
at_member (y ∷ ys) zero h = or_left (eqb y y) (member y ys) (eqb_refl y)
at_member (y ∷ ys) (suc i) h = or_right (eqb (get_or ys i 0) y) (member (get_or ys i 0) ys) (at_member ys i (le_of_suc-le-suc h))

abbrev distinct : List ℕ → Bool
distinct [] = true
distinct (y ∷ ys) = not (member y ys) && distinct ys

no_more : (y : ℕ) (ys : List ℕ) → T (distinct (y ∷ ys)) → (i : ℕ) → i < length ys → y ≡ get_or ys i 0 → ⊥
no_more y ys t i h e =
    T_not (member y ys) (and_left (not (member y ys)) (distinct ys) t)
    (subst (λ (x : ℕ). T (member x ys)) (sym e) (at_member ys i h))

distinct_at : (l : List ℕ) → T (distinct l) → (i j : ℕ) → i < length l → j < length l → get_or l i 0 ≡ get_or l j 0 → i ≡ j
distinct_at [] t i j hi hj e = absurd (not-suc-le-zero hi)
distinct_at (y ∷ ys) t zero zero hi hj e = refl
distinct_at (y ∷ ys) t zero (suc j) hi hj e = absurd (no_more y ys t j (le_of_suc-le-suc hj) e)
distinct_at (y ∷ ys) t (suc i) zero hi hj e = absurd (no_more y ys t i (le_of_suc-le-suc hi) (sym e))
distinct_at (y ∷ ys) t (suc i) (suc j) hi hj e =
    ap suc (distinct_at ys (and_right (not (member y ys)) (distinct ys) t) i j (le_of_suc-le-suc hi) (le_of_suc-le-suc hj) e)

-- ---- the first 255

pub power_injective : (i j : ℕ) → i < 255 → j < 255 → power i ≡ power j → i ≡ j
unfolding double sum
power_injective i j hi hj e =
    distinct_at (chain 255 1) tt i j hi hj (get_or_chain 255 i hi ∙ e ∙ sym (get_or_chain 255 j hj))

pub is_power : (x : ℕ) → x < 256 → (x ≡ zero → ⊥) → (i : ℕ) × (i < 255) × (power i ≡ x)
unfolding double sum
is_power x h n =
    ⊎_elim (λ e. absurd (n (eqb→eq x zero e)))
    (λ m. let q : (i : ℕ) × (i < 255) × (get_or (chain 255 1) i 0 ≡ x) = member_at x (chain 255 1) m in
    (q.0, q.1, sym (get_or_chain 255 q.0 q.1) ∙ q.2))
    (or_cases (eqb x zero) (member x (chain 255 1)) (below (λ (k : ℕ). eqb k zero || member k (chain 255 1)) 256 tt x h))

-- Polynomials as lists (document 01, section 3): the laws of `Bytes`, `add`, `scale` and `times` (specs/Code.antt), the longer list last.
-- Assumes nothing.
use mathlib.Core.Path.{◌≡◌, refl, sym, ap, ap₂, ◌∙◌}
use mathlib.Core.List.{List, [], ◌∷◌, ◌++◌}
use Prim.Native.Nat.{ℕ, zero, suc, ◌+◌, ◌≤◌, ◌<◌, zero-le, suc-le-suc}
use native.Mathlib.Nat.{le_of_suc-le-suc, not-suc-le-zero}
use native.Mathlib.Omega.{arith}
use lib.ListN.{length, get_or, replicate, length-replicate}
use Rattle.ground.specs.Bits.{sum}
use Rattle.ground.proofs.Sums.{sum_assoc, sum_comm, sum_self, sum_zero, zero_sum, sum_cancel}
use Rattle.field.specs.Field.{product}
use Rattle.field.proofs.Laws.{sum-byte, product-byte, product-sum-left, zero_product}
use Rattle.code.specs.Code.{Bytes, add, scale, times}

abbrev pub zeros : ℕ → List ℕ
zeros n = replicate n 0

pub length_zeros : (n : ℕ) → length (zeros n) ≡ n
length_zeros n = length-replicate n 0

-- ---- bytes

pub bytes_of : (l : List ℕ) → ((i : ℕ) → get_or l i 0 < 256) → Bytes l
unfolding Bytes
bytes_of [] h = tt
bytes_of (x ∷ l) h = (h zero, bytes_of l (λ i. h (suc i)))

pub bytes_at_lem : (l : List ℕ) → Bytes l → (i : ℕ) → get_or l i 0 < 256
unfolding Bytes
bytes_at_lem [] b i = omega arith
bytes_at_lem (x ∷ l) b zero = b.0
bytes_at_lem (x ∷ l) b (suc i) = bytes_at_lem l b.1 i

pub bytes_cons : (x : ℕ) (l : List ℕ) → x < 256 → Bytes l → Bytes (x ∷ l)
unfolding Bytes
bytes_cons x l h b = (h, b)

pub bytes_nil : Bytes []
unfolding Bytes
bytes_nil = tt

pub zeros_bytes : (n : ℕ) → Bytes (zeros n)
unfolding Bytes
zeros_bytes zero = tt
zeros_bytes (suc n) = (omega arith, zeros_bytes n)

pub append-bytes : (a b : List ℕ) → Bytes a → Bytes b → Bytes (a ++ b)
unfolding Bytes
append-bytes [] b p q = q
append-bytes (x ∷ a) b p q = (p.0, append-bytes a b p.1 q)

-- of both parts
pub bytes-parts : (a b : List ℕ) → Bytes (a ++ b) → Bytes a × Bytes b
unfolding Bytes
bytes-parts [] b p = (tt, p)
bytes-parts (x ∷ a) b p = let t = bytes-parts a b p.1 in ((p.0, t.0), t.1)

pub add-bytes : (a b : List ℕ) → Bytes a → Bytes b → Bytes (add a b)
unfolding add Bytes
add-bytes [] b p q = q
add-bytes (x ∷ a) [] p q = p
add-bytes (x ∷ a) (y ∷ b) p q = (sum-byte x y p.0 q.0, add-bytes a b p.1 q.1)

pub scale-bytes : (a : ℕ) (g : List ℕ) → Bytes (scale a g)
unfolding scale Bytes
scale-bytes a [] = tt
scale-bytes a (x ∷ g) = (product-byte a x, scale-bytes a g)

-- ---- lengths

pub length-add : (a b : List ℕ) → length a ≤ length b → length (add a b) ≡ length b
unfolding add
length-add [] b h = refl
length-add (x ∷ a) [] h = absurd (not-suc-le-zero h)
length-add (x ∷ a) (y ∷ b) h = ap suc (length-add a b (le_of_suc-le-suc h))

pub add_longer : (a b : List ℕ) → length b ≤ length (add a b)
unfolding add
add_longer [] b = omega arith
add_longer (x ∷ a) [] = zero-le
add_longer (x ∷ a) (y ∷ b) = suc-le-suc (add_longer a b)

pub length-scale : (a : ℕ) (g : List ℕ) → length (scale a g) ≡ length g
unfolding scale
length-scale a [] = refl
length-scale a (x ∷ g) = ap suc (length-scale a g)

-- ---- the sum

pub nil_add : (a : List ℕ) → add [] a ≡ a
unfolding add
nil_add a = refl

pub add_nil : (a : List ℕ) → add a [] ≡ a
unfolding add
add_nil [] = refl
add_nil (x ∷ a) = refl

pub add_comm : (a b : List ℕ) → add a b ≡ add b a
unfolding add
add_comm [] [] = refl
add_comm [] (y ∷ b) = refl
add_comm (x ∷ a) [] = refl
add_comm (x ∷ a) (y ∷ b) = ap₂ ◌∷◌ (sum_comm x y) (add_comm a b)

pub add_assoc : (a b c : List ℕ) → add (add a b) c ≡ add a (add b c)
unfolding add
add_assoc [] b c = refl
add_assoc (x ∷ a) [] c = refl
add_assoc (x ∷ a) (y ∷ b) [] = refl
add_assoc (x ∷ a) (y ∷ b) (z ∷ c) = ap₂ ◌∷◌ (sum_assoc x y z) (add_assoc a b c)

pub add_self : (a : List ℕ) → add a a ≡ zeros (length a)
unfolding add
add_self [] = refl
add_self (x ∷ a) = ap₂ ◌∷◌ (sum_self x) (add_self a)

-- what is added twice is gone
pub sum-again : (a b : ℕ) → sum a (sum a b) ≡ b
sum-again a b = sym (sum_assoc a a b) ∙ ap (λ (x : ℕ). sum x b) (sum_self a) ∙ zero_sum b

pub add_twice : (a b : List ℕ) → length a ≤ length b → add a (add a b) ≡ b
unfolding add
add_twice [] b h = refl
add_twice (x ∷ a) [] h = absurd (not-suc-le-zero h)
add_twice (x ∷ a) (y ∷ b) h =
    ap₂ ◌∷◌ (sum-again x y) (add_twice a b (le_of_suc-le-suc h))

-- equal, where the sum is nothing
pub add_same : (a b : List ℕ) → length a ≡ length b → add a b ≡ zeros (length a) → a ≡ b
unfolding add
add_same [] [] e z = refl
add_same [] (y ∷ b) e z = absurd (omega arith)
add_same (x ∷ a) [] e z = absurd (omega arith)
add_same (x ∷ a) (y ∷ b) e z =
    let h : sum x y ≡ 0 = cc in
    let t : add a b ≡ zeros (length a) = cc in
    ap₂ ◌∷◌ (sum_cancel x y h) (add_same a b (omega arith) t)

pub add_at : (a b : List ℕ) → length a ≡ length b → (i : ℕ) → get_or (add a b) i 0 ≡ sum (get_or a i 0) (get_or b i 0)
unfolding add
add_at [] [] e i = sym (zero_sum 0)
add_at [] (y ∷ b) e i = absurd (omega arith)
add_at (x ∷ a) [] e i = absurd (omega arith)
add_at (x ∷ a) (y ∷ b) e zero = refl
add_at (x ∷ a) (y ∷ b) e (suc i) = add_at a b (omega arith) i

-- ---- with zeros

pub zeros_add : (n : ℕ) (b : List ℕ) → n ≤ length b → add (zeros n) b ≡ b
unfolding add
zeros_add zero b h = refl
zeros_add (suc n) [] h = absurd (not-suc-le-zero h)
zeros_add (suc n) (y ∷ b) h = ap₂ ◌∷◌ (zero_sum y) (zeros_add n b (le_of_suc-le-suc h))

pub add_zeros : (a : List ℕ) (n : ℕ) → n ≤ length a → add a (zeros n) ≡ a
add_zeros a n h = add_comm a (zeros n) ∙ zeros_add n a h

-- the one ends in zeros where the other, after as many as the one is long, has its entries
pub add-front : (n : ℕ) (a s : List ℕ) → length a ≡ n → add (a ++ zeros (length s)) (zeros n ++ s) ≡ a ++ s
unfolding add
add-front zero [] s e = zeros_add (length s) s (omega arith)
add-front zero (x ∷ a) s e = absurd (omega arith)
add-front (suc n) [] s e = absurd (omega arith)
add-front (suc n) (x ∷ a) s e = ap₂ ◌∷◌ (sum_zero x) (add-front n a s (omega arith))

pub add-behind : (a b : List ℕ) → ◌≡◌ {A = List ℕ} (add (0 ∷ a) (0 ∷ b)) (0 ∷ add a b)
unfolding add
add-behind a b = ap (λ (x : ℕ). x ∷ add a b) (zero_sum 0)

pub cons_add : (x : ℕ) (a b : List ℕ) → add (x ∷ a) (0 ∷ b) ≡ x ∷ add a b
unfolding add
cons_add x a b = ap (λ (z : ℕ). z ∷ add a b) (sum_zero x)

-- ---- multiples and products

pub scale_zero : (g : List ℕ) → scale 0 g ≡ zeros (length g)
unfolding scale
scale_zero [] = refl
scale_zero (x ∷ g) = ap₂ ◌∷◌ (zero_product x) (scale_zero g)

pub scale-sum : (a b : ℕ) (g : List ℕ) → scale (sum a b) g ≡ add (scale a g) (scale b g)
unfolding scale add
scale-sum a b [] = refl
scale-sum a b (x ∷ g) = ap₂ ◌∷◌ (product-sum-left a b x) (scale-sum a b g)

pub scale-append : (a : ℕ) (g h : List ℕ) → scale a (g ++ h) ≡ scale a g ++ scale a h
unfolding scale
scale-append a [] h = refl
scale-append a (x ∷ g) h = ap (λ (l : List ℕ). product a x ∷ l) (scale-append a g h)

pub times_nil : (g : List ℕ) → times [] g ≡ []
unfolding times
times_nil g = refl

pub times_cons : (a : ℕ) (q g : List ℕ) → times (a ∷ q) g ≡ add (scale a g) (0 ∷ times q g)
unfolding times
times_cons a q g = refl

pub length-times : (a : ℕ) (q : List ℕ) (x : ℕ) (g : List ℕ) → length (times (a ∷ q) (x ∷ g)) ≡ suc (length q + length g)
unfolding times
length-times a [] x g =
    let e : length (scale a (x ∷ g)) ≡ suc (length g) = length-scale a (x ∷ g) in
    ap length (add_comm (scale a (x ∷ g)) (0 ∷ [])) ∙ length-add (0 ∷ []) (scale a (x ∷ g)) (omega arith) ∙ omega arith
length-times a (b ∷ q) x g =
    let e : length (scale a (x ∷ g)) ≡ suc (length g) = length-scale a (x ∷ g) in
    let f : length (times (b ∷ q) (x ∷ g)) ≡ suc (length q + length g) = length-times b q x g in
    length-add (scale a (x ∷ g)) (0 ∷ times (b ∷ q) (x ∷ g)) (omega arith) ∙ omega arith

-- The table keeps its rule: the entry of 1 is the generator's array, the first two rows are products with it, and each further row is the one two above it with a byte
-- of 0 more behind it. The last two are computed. Assumes nothing.
use mathlib.Core.Path.{◌≡◌, refl, sym, ap, ap₂, ◌∙◌}
use mathlib.Core.List.{List, [], ◌∷◌, ◌++◌, map}
use Prim.Native.Nat.{ℕ, zero, suc, ◌+◌, ◌*◌, ◌/◌, ◌%◌, ◌^◌, ◌<◌}
use native.Mathlib.Nat.{mod-lt, zero-lt-suc, mul_assoc, add-mul, one-mul, lt_of_lt_of_le}
use native.Mathlib.Omega.{arith}
use lib.ListN.{length, get_or, take, drop, get_or-append, get_or-map}
use lib.Seq.{get_or-take, get_or-drop, get_or-append-add}
use lib.Pow.{pow-add, pow_mono, shl_lt}
use lib.Bits.{bit_xor, xor_shifted}
use Rattle.ground.specs.Bits.{sum}
use Rattle.ground.proofs.Sums.{sum_zero}
use Rattle.ground.proofs.Listed.{get_or-listed_0, listed-append, listed_same}
use Rattle.ground.specs.Lists.{listed}
use Rattle.code.specs.Code.{add, scale, generator}
use Rattle.code.specs.Search.{lower}
use Rattle.code.specs.Register.{next}
use Rattle.code.proofs.Lists.{scale-sum}
use Rattle.encoding.specs.InnerRegister.{part, unpack, both, through, Halves}
use Rattle.encoding.proofs.Turns.{through-byte, through-next}

-- the entries, each as sixteen bytes
unfoldable pub entries : List ℕ → List (List ℕ)
entries [] = []
entries (h ∷ []) = []
entries (h ∷ l ∷ t) = both h l ∷ entries t

-- a byte of 0 more, where the byte that leaves the register is looked up in the first two rows
unfoldable pub follow : List (List ℕ) → List ℕ → List ℕ
follow es [] = []
follow es (a ∷ r) = add (add (get_or es (16 + a / 16) []) (get_or es (a % 16) [])) r

-- twice as many: b added to each
unfoldable pub doubled : List (List ℕ) → List ℕ → List (List ℕ)
doubled es b = es ++ map (add b) es

-- the products with p times 0 to 15, as sums of four of them
unfoldable pub sixteen : ℕ → List (List ℕ)
sixteen p =
    doubled (doubled (doubled (doubled (scale (0 * p) lower ∷ []) (scale (1 * p) lower)) (scale (2 * p) lower)) (scale (4 * p) lower)) (scale (8 * p) lower)

-- the first two rows
unfoldable pub rows : List (List ℕ)
rows = sixteen 1 ++ sixteen 16

map-listed : (g : List ℕ → List ℕ) (f : ℕ → List ℕ) (n i : ℕ) → map g (listed f n i) ≡ listed (λ k. g (f k)) n i
map-listed g f zero i = refl
map-listed g f (suc n) i = ap (λ (l : List (List ℕ)). g (f i) ∷ l) (map-listed g f n (suc i))

-- the products with 2^s times a number
abbrev times : ℕ → ℕ → List ℕ
times s v = scale (v * 2 ^ s) lower

-- a bit above the others
above : (s a k : ℕ) → k < 2 ^ a → add (times s (2 ^ a)) (times s k) ≡ times s (2 ^ a + k)
unfolding sum
above s a k h =
    let e : 2 ^ a * 2 ^ s ≡ 1 * 2 ^ (a + s) = sym (pow-add 2 a s) ∙ sym (one-mul (2 ^ (a + s))) in
    sym (scale-sum (2 ^ a * 2 ^ s) (k * 2 ^ s) lower)
    ∙ ap (λ (n : ℕ). scale n lower)
    (ap (λ (n : ℕ). bit_xor n (k * 2 ^ s)) e ∙ xor_shifted 1 (a + s) (k * 2 ^ s) (shl_lt a s h) ∙ ap (λ (n : ℕ). n + k * 2 ^ s) (sym e) ∙ sym (add-mul (2 ^ a) k (2 ^ s)))

doubling : (s a : ℕ) → doubled (listed (times s) (2 ^ a) 0) (times s (2 ^ a)) ≡ listed (times s) (2 ^ a + 2 ^ a) 0
unfolding doubled
doubling s a =
    ap (λ (l : List (List ℕ)). listed (times s) (2 ^ a) 0 ++ l)
    (map-listed (add (times s (2 ^ a))) (times s) (2 ^ a) 0
    ∙ listed_same (λ k. add (times s (2 ^ a)) (times s k)) (times s) (2 ^ a) 0 (0 + 2 ^ a)
    (λ k h.
    let z : 0 + k ≡ k = omega arith in
    let o : 2 ^ a + k ≡ 0 + 2 ^ a + k = omega arith in
    ap (λ (n : ℕ). add (times s (2 ^ a)) (times s n)) z ∙ above s a k h ∙ ap (times s) o))
    ∙ sym (listed-append (times s) (2 ^ a) (2 ^ a) 0)

sixteen_listed : (s : ℕ) → sixteen (2 ^ s) ≡ listed (times s) 16 0
unfolding sixteen
sixteen_listed s =
    ap (λ (l : List (List ℕ)). doubled (doubled (doubled l (times s 2)) (times s 4)) (times s 8)) (doubling s 0)
    ∙ ap (λ (l : List (List ℕ)). doubled (doubled l (times s 4)) (times s 8)) (doubling s 1)
    ∙ ap (λ (l : List (List ℕ)). doubled l (times s 8)) (doubling s 2) ∙ doubling s 3

entry_at : (t : List ℕ) (i : ℕ) → 2 * i + 1 < length t → get_or (entries t) i [] ≡ both (get_or t (2 * i) 0) (get_or t (2 * i + 1) 0)
unfolding entries
entry_at [] i h = absurd (omega arith)
entry_at (x ∷ []) i h = absurd (omega arith)
entry_at (x ∷ y ∷ t) zero h = refl
entry_at (x ∷ y ∷ t) (suc i) h =
    let e : 2 * suc i ≡ suc (suc (2 * i)) = omega arith in
    let f : 2 * suc i + 1 ≡ suc (suc (2 * i + 1)) = omega arith in
    entry_at t i (omega arith) ∙ sym (ap₂ (λ (m n : ℕ). both (get_or (x ∷ y ∷ t) m 0) (get_or (x ∷ y ∷ t) n 0)) e f)

module _ (t : List ℕ) (n : length t ≡ 512) (es : List (List ℕ)) (same : entries t ≡ es) (a : take 32 es ≡ rows) (b : drop 32 es ≡ map (follow es) (take 224 es)) where
  entry_is : (i : ℕ) → 2 * i + 1 < length t → get_or es i [] ≡ both (get_or t (2 * i) 0) (get_or t (2 * i + 1) 0)
  entry_is i h = ap (λ (l : List (List ℕ)). get_or l i []) (sym same) ∙ entry_at t i h

  parted : take 32 es ≡ listed (times 0) 16 0 ++ listed (times 4) 16 0
  unfolding rows
  parted = a ∙ ap₂ ◌++◌ (sixteen_listed 0) (sixteen_listed 4)

  lowest : (v : ℕ) → v < 16 → get_or es v [] ≡ scale v lower
  lowest v h =
      let e : v * 1 ≡ v = omega arith in
      sym (get_or-take 32 es v [] (omega arith)) ∙ ap (λ (l : List (List ℕ)). get_or l v []) parted
      ∙ get_or-append (listed (times 0) 16 0) (listed (times 4) 16 0) [] v h
      ∙ get_or-listed_0 (times 0) 16 v [] h ∙ ap (λ (n : ℕ). scale n lower) e

  second : (v : ℕ) → v < 16 → get_or es (16 + v) [] ≡ scale (v * 16) lower
  second v h =
      sym (get_or-take 32 es (16 + v) [] (omega arith)) ∙ ap (λ (l : List (List ℕ)). get_or l (16 + v) []) parted
      ∙ get_or-append-add (listed (times 0) 16 0) (listed (times 4) 16 0) v [] ∙ get_or-listed_0 (times 4) 16 v [] h

  later : (i : ℕ) → i < 224 → get_or es (32 + i) [] ≡ follow es (get_or es i [])
  unfolding follow
  later i h =
      sym (get_or-drop 32 es i []) ∙ ap (λ (l : List (List ℕ)). get_or l i []) b ∙ get_or-map (follow es) (take 224 es) i []
      ∙ ap (follow es) (get_or-take 224 es i [] h)

  -- the products with a byte, from those with its half bytes
  looked : (x : ℕ) → x < 256 → add (get_or es (16 + x / 16) []) (get_or es (x % 16) []) ≡ scale x lower
  unfolding sum
  looked x h =
      let e : x / 16 * 16 + x % 16 ≡ x = omega arith in
      ap₂ add (second (x / 16) (omega arith)) (lowest (x % 16) (omega arith)) ∙ sym (scale-sum (x / 16 * 16) (x % 16) lower)
      ∙ ap (λ (k : ℕ). scale k lower) (xor_shifted (x / 16) 4 (x % 16) (omega arith) ∙ e)

  follow-next : (x : ℕ) (r : List ℕ) → x < 256 → follow es (x ∷ r) ≡ next (x ∷ r) 0
  unfolding follow next
  follow-next x r h = ap (λ (l : List ℕ). add l r) (looked x h ∙ ap (λ (k : ℕ). scale k lower) (sym (sum_zero x)))

  followed : (x y : ℕ) → follow es (both x y) ≡ next (both x y) 0
  unfolding both unpack
  followed x y = follow-next (x / 2 ^ 56 % 256) (unpack 7 x ++ unpack 8 y) (mod-lt (x / 2 ^ 56) (zero-lt-suc 255))

  at : (k v : ℕ) → k < 16 → v < 16 → get_or es (16 * k + v) [] ≡ through (v * 2 ^ (k * 4))
  at zero v h j =
      let e : 0 + v ≡ v = omega arith in
      let f : v * 1 ≡ v = omega arith in
      ap (λ (i : ℕ). get_or es i []) e ∙ lowest v j ∙ sym (ap through f ∙ through-byte v (omega arith))
  at (suc zero) v h j = second v j ∙ sym (through-byte (v * 16) (omega arith))
  at (suc (suc k)) v h j =
      let i : ℕ = 16 * k + v in
      let w : ℕ = v * 2 ^ (k * 4) in
      let e : 16 * suc (suc k) + v ≡ 32 + i = omega arith in
      let f : k * 4 + 8 ≡ suc (suc k) * 4 = omega arith in
      let q : get_or es i [] ≡ both (get_or t (2 * i) 0) (get_or t (2 * i + 1) 0) = entry_is i (omega arith) in
      let l : w < 2 ^ 56 = lt_of_lt_of_le (shl_lt 4 (k * 4) j) (pow_mono {i = 4 + k * 4} {j = 56} (omega arith)) in
      ap (λ (m : ℕ). get_or es m []) e ∙ later i (omega arith)
      ∙ ap (follow es) q ∙ followed (get_or t (2 * i) 0) (get_or t (2 * i + 1) 0) ∙ ap (λ (r : List ℕ). next r 0) (sym q ∙ at k v (omega arith) j)
      ∙ through-next w l
      ∙ ap through (mul_assoc v (2 ^ (k * 4)) 256 ∙ ap (λ (m : ℕ). v * m) (sym (pow-add 2 (k * 4) 8) ∙ ap (λ (m : ℕ). 2 ^ m) f))

  rule : Halves t
  rule = record {
    room = n;
    entry = λ k v h j.
        let i : ℕ = 16 * k + v in
        let e : 32 * k + 2 * v ≡ 2 * i = omega arith in
        ap (λ (m : ℕ). both (get_or t m 0) (get_or t (m + 1) 0)) e ∙ sym (entry_is i (omega arith)) ∙ at k v h j;
  }

-- the generator, without its leading coefficient, in two words
pub own-words : (x y : ℕ) → unpack 8 x ≡ part generator 1 8 → unpack 8 y ≡ part generator 9 8 → both x y ≡ lower
unfolding both generator lower
own-words x y p q = ap₂ ◌++◌ p q

pub from_generator : (u v x y : ℕ) (t : List ℕ) → both x y ≡ lower → length t ≡ 508 → take 32 (both u v ∷ lower ∷ entries t) ≡ rows
    → drop 32 (both u v ∷ lower ∷ entries t) ≡ map (follow (both u v ∷ lower ∷ entries t)) (take 224 (both u v ∷ lower ∷ entries t))
    → Halves (u ∷ v ∷ x ∷ y ∷ t)
unfolding entries
from_generator u v x y t e n a b =
    rule (u ∷ v ∷ x ∷ y ∷ t) (omega arith) (both u v ∷ lower ∷ entries t) (ap (λ (l : List ℕ). both u v ∷ l ∷ entries t) e) a b

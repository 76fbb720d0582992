-- Long division by the generator (document 01, section 3): each polynomial is a multiple and a remainder in one way only, so a row is coded exactly if nothing is left, and the checks are what is
-- left of the information with sixteen zeros behind it. The register divides while the bytes come. Laws about 239 and 255 are stated over m first.
-- Assumes nothing.
use mathlib.Core.Path.{◌≡◌, refl, sym, ap, ap₂, ◌∙◌}
use mathlib.Core.List.{List, [], ◌∷◌, ◌++◌}
use Prim.Native.Nat.{ℕ, zero, suc, ◌+◌, ◌≤◌, ◌<◌}
use native.Mathlib.Nat.{zero-add, suc-add}
use native.Mathlib.Omega.{arith}
use lib.ListN.{length, length-append, replicate-append-replicate}
use Rattle.ground.specs.Bits.{sum}
use Rattle.ground.proofs.Sums.{sum_zero}
use Rattle.field.specs.Field.{product}
use Rattle.field.proofs.Laws.{product_comm, product_one}
use Rattle.code.specs.Code.{Bytes, add, scale, times, generator, Coded}
use Rattle.code.specs.Search.{lower, remainder}
use Rattle.code.specs.Register.{next, run}
use Rattle.code.specs.Repair.{checks_of, ChecksAreExact}
use Rattle.code.proofs.Lists.{zeros, length_zeros, zeros_bytes, append-bytes, add-bytes, scale-bytes, length-add, add_longer, length-scale, nil_add, add_comm, add_assoc, add_self, add_twice, add_same, zeros_add, add_zeros, add-front, add-behind, cons_add, scale_zero, length-times}

pub generator-lower : generator ≡ 1 ∷ lower
unfolding generator lower
generator-lower = refl

pub length-lower : length lower ≡ 16
unfolding lower
length-lower = refl

pub length-multiple : (a : ℕ) → length (scale a lower) ≡ 16
length-multiple a = length-scale a lower ∙ length-lower

-- one turn of the division, and of the multiplication
turn : (a : ℕ) (w : List ℕ) → a < 256 → add (scale a generator) (0 ∷ w) ≡ a ∷ add (scale a lower) w
unfolding scale add
turn a w h =
    ap (λ (g : List ℕ). add (scale a g) (0 ∷ w)) generator-lower
    ∙ ap (λ (x : ℕ). x ∷ add (scale a lower) w) (sum_zero (product a 1) ∙ product_comm a 1 ∙ product_one a h)

-- what a turn leaves to divide
pub left : (m a : ℕ) (w : List ℕ) → length (a ∷ w) ≡ suc m + 16 → length (add (scale a lower) w) ≡ m + 16
left m a w e =
    let f : length (scale a lower) ≡ 16 = length-multiple a in length-add (scale a lower) w (omega arith) ∙ omega arith

left-bytes : (a : ℕ) (w : List ℕ) → Bytes (a ∷ w) → Bytes (add (scale a lower) w)
unfolding Bytes
left-bytes a w b = add-bytes (scale a lower) w (scale-bytes a lower) b.1

unfoldable pub quotient_of : ℕ → List ℕ → List ℕ
quotient_of zero w = []
quotient_of (suc m) [] = []
quotient_of (suc m) (a ∷ w) = a ∷ quotient_of m (add (scale a lower) w)

pub length-remainder : (m : ℕ) (w : List ℕ) → length w ≡ m + 16 → length (remainder m w) ≡ 16
unfolding remainder
length-remainder zero w e = omega arith
length-remainder (suc m) [] e = absurd (omega arith)
length-remainder (suc m) (a ∷ w) e = length-remainder m (add (scale a lower) w) (left m a w e)

pub remainder-bytes : (m : ℕ) (w : List ℕ) → Bytes w → Bytes (remainder m w)
unfolding remainder Bytes
remainder-bytes zero w b = b
remainder-bytes (suc m) [] b = tt
remainder-bytes (suc m) (a ∷ w) b = remainder-bytes m (add (scale a lower) w) (left-bytes a w b)

pub length-quotient : (m : ℕ) (w : List ℕ) → length w ≡ m + 16 → length (quotient_of m w) ≡ m
unfolding quotient_of
length-quotient zero w e = refl
length-quotient (suc m) [] e = absurd (omega arith)
length-quotient (suc m) (a ∷ w) e = ap suc (length-quotient m (add (scale a lower) w) (left m a w e))

pub quotient-bytes : (m : ℕ) (w : List ℕ) → Bytes w → Bytes (quotient_of m w)
unfolding quotient_of Bytes
quotient-bytes zero w b = tt
quotient-bytes (suc m) [] b = tt
quotient-bytes (suc m) (a ∷ w) b = (b.0, quotient-bytes m (add (scale a lower) w) (left-bytes a w b))

-- w is its quotient times the generator, and its remainder
pub divide : (m : ℕ) (w : List ℕ) → length w ≡ m + 16 → Bytes w → w ≡ add (times (quotient_of m w) generator) (zeros m ++ remainder m w)
unfolding quotient_of remainder times Bytes
divide zero w e b = sym (nil_add w)
divide (suc m) [] e b = absurd (omega arith)
divide (suc m) (a ∷ w) e b =
    let v : List ℕ = add (scale a lower) w in
    let f : length (scale a lower) ≡ 16 = length-multiple a in
    ap (λ (l : List ℕ). a ∷ l) (sym (add_twice (scale a lower) w (omega arith)))
    ∙ sym (turn a v b.0)
    ∙ ap (λ (l : List ℕ). add (scale a generator) (0 ∷ l)) (divide m v (left m a w e) (left-bytes a w b))
    ∙ ap (add (scale a generator)) (sym (add-behind (times (quotient_of m v) generator) (zeros m ++ remainder m v)))
    ∙ sym (add_assoc (scale a generator) (0 ∷ times (quotient_of m v) generator) (0 ∷ (zeros m ++ remainder m v)))

-- and nothing else is: of a multiple of the generator, and s, what is left is s
pub divide_unique : (m : ℕ) (q s : List ℕ) → length q ≡ m → length s ≡ 16 → Bytes q → remainder m (add (times q generator) (zeros m ++ s)) ≡ s
unfolding remainder times Bytes
divide_unique zero [] s e f b = nil_add s
divide_unique zero (a ∷ q) s e f b = absurd (omega arith)
divide_unique (suc m) [] s e f b = absurd (omega arith)
divide_unique (suc m) (a ∷ q) s e f b =
    let t : List ℕ = add (times q generator) (zeros m ++ s) in
    let n : length (zeros m ++ s) ≡ length (zeros m) + length s = length-append (zeros m) s in
    let o : length (zeros m ++ s) ≤ length t = add_longer (times q generator) (zeros m ++ s) in
    let g : length (scale a lower) ≡ 16 = length-multiple a in
    ap (remainder (suc m))
    (add_assoc (scale a generator) (0 ∷ times q generator) (0 ∷ (zeros m ++ s))
    ∙ ap (add (scale a generator)) (add-behind (times q generator) (zeros m ++ s)) ∙ turn a t b.0)
    ∙ ap (remainder m) (add_twice (scale a lower) t (omega arith))
    ∙ divide_unique m q s (omega arith) f b.1

-- what is added behind the places divided is added to the remainder
pub remainder-add : (m : ℕ) (w s : List ℕ) → length w ≡ m + 16 → remainder m (add w (zeros m ++ s)) ≡ add (remainder m w) s
unfolding remainder
remainder-add zero w s e = refl
remainder-add (suc m) [] s e = absurd (omega arith)
remainder-add (suc m) (a ∷ w) s e =
    ap (remainder (suc m)) (cons_add a w (zeros m ++ s))
    ∙ ap (remainder m) (sym (add_assoc (scale a lower) w (zeros m ++ s)))
    ∙ remainder-add m (add (scale a lower) w) s (left m a w e)

-- zeros in front do not count
pub remainder_zeros : (k m : ℕ) (w : List ℕ) → 16 ≤ length w → remainder (k + m) (zeros k ++ w) ≡ remainder m w
unfolding remainder
remainder_zeros zero m w h = ap (λ (n : ℕ). remainder n w) (zero-add m)
remainder_zeros (suc k) m w h =
    let e : length (zeros k ++ w) ≡ length (zeros k) + length w = length-append (zeros k) w in
    let f : length lower ≡ 16 = length-lower in
    ap (λ (n : ℕ). remainder n (0 ∷ (zeros k ++ w))) (suc-add k m)
    ∙ ap (remainder (k + m)) (ap (λ (l : List ℕ). add l (zeros k ++ w)) (scale_zero lower) ∙ zeros_add (length lower) (zeros k ++ w) (omega arith))
    ∙ remainder_zeros k m w h

-- ---- divisible exactly if nothing is left

pub length-product : (m : ℕ) (q : List ℕ) → length q ≡ suc m → length (times q generator) ≡ suc m + 16
length-product m [] e = absurd (omega arith)
length-product m (a ∷ q) e =
    let f : length lower ≡ 16 = length-lower in
    ap (λ (g : List ℕ). length (times (a ∷ q) g)) generator-lower ∙ length-times a q 1 lower ∙ omega arith

no_rest : (m : ℕ) (q : List ℕ) → length q ≡ suc m → add (times q generator) (zeros (suc m) ++ zeros 16) ≡ times q generator
no_rest m q e =
    let f : length (times q generator) ≡ suc m + 16 = length-product m q e in
    ap (add (times q generator)) (replicate-append-replicate (suc m) 16 0) ∙ add_zeros (times q generator) (suc m + 16) (omega arith)

pub product-remainder : (m : ℕ) (q : List ℕ) → length q ≡ suc m → Bytes q → remainder (suc m) (times q generator) ≡ zeros 16
product-remainder m q e b =
    ap (remainder (suc m)) (sym (no_rest m q e)) ∙ divide_unique (suc m) q (zeros 16) e (length_zeros 16) b

pub remainder-product : (m : ℕ) (w : List ℕ) → length w ≡ suc m + 16 → Bytes w → remainder (suc m) w ≡ zeros 16 → w ≡ times (quotient_of (suc m) w) generator
remainder-product m w e b z =
    divide (suc m) w e b
    ∙ ap (λ (r : List ℕ). add (times (quotient_of (suc m) w) generator) (zeros (suc m) ++ r)) z
    ∙ no_rest m (quotient_of (suc m) w) (length-quotient (suc m) w e)

pub coded-remainder : (row : List ℕ) → Coded row → remainder 239 row ≡ zeros 16
coded-remainder row c =
    ap (remainder 239) c.divides ∙ product-remainder 238 c.quotient c.quotient-sized c.quotient-bytes

pub remainder-coded : (row : List ℕ) → length row ≡ 255 → Bytes row → remainder 239 row ≡ zeros 16 → Coded row
remainder-coded row e b z = record {
  sized = e;
  bytes = b;
  quotient = quotient_of 239 row;
  quotient-sized = length-quotient 239 row e;
  quotient-bytes = quotient-bytes 239 row b;
  divides = remainder-product 238 row e b z;
}

-- ---- the checks

-- a row's remainder, of its two parts
parts : (m n : ℕ) (info c : List ℕ) → length info ≡ m → length c ≡ n → n ≡ 16 → remainder m (info ++ c) ≡ add (remainder m (info ++ zeros n)) c
parts m n info c e f h =
    let l : length (info ++ zeros n) ≡ length info + length (zeros n) = length-append info (zeros n) in
    let o : length (zeros n) ≡ n = length_zeros n in
    ap (remainder m) (sym (add-front m info c e) ∙ ap (λ (k : ℕ). add (info ++ zeros k) (zeros m ++ c)) f)
    ∙ remainder-add m (info ++ zeros n) c (omega arith)

padded : (info : List ℕ) → length info ≡ 239 → length (info ++ zeros 16) ≡ 239 + 16
padded info e = length-append info (zeros 16) ∙ omega arith

pub remainder-row : (info c : List ℕ) → length info ≡ 239 → length c ≡ 16 → remainder 239 (info ++ c) ≡ add (checks_of info) c
unfolding checks_of
remainder-row info c e f = parts 239 16 info c e f refl

pub length_checks : (info : List ℕ) → length info ≡ 239 → length (checks_of info) ≡ 16
unfolding checks_of
length_checks info e = length-remainder 239 (info ++ zeros 16) (padded info e)

pub checks_bytes : (info : List ℕ) → Bytes info → Bytes (checks_of info)
unfolding checks_of
checks_bytes info b = remainder-bytes 239 (info ++ zeros 16) (append-bytes info (zeros 16) b (zeros_bytes 16))

pub checks_coded : (info : List ℕ) → length info ≡ 239 → Bytes info → Coded (info ++ checks_of info)
checks_coded info e b =
    let n : length (checks_of info) ≡ 16 = length_checks info e in
    remainder-coded (info ++ checks_of info) (length-append info (checks_of info) ∙ omega arith)
    (append-bytes info (checks_of info) b (checks_bytes info b))
    (remainder-row info (checks_of info) e n ∙ add_self (checks_of info) ∙ ap zeros n)

pub checks_unique : (info c : List ℕ) → length info ≡ 239 → length c ≡ 16 → Coded (info ++ c) → c ≡ checks_of info
checks_unique info c e f k =
    let n : length (checks_of info) ≡ 16 = length_checks info e in
    sym
    (add_same (checks_of info) c (omega arith)
    (sym (remainder-row info c e f) ∙ coded-remainder (info ++ c) k ∙ ap zeros (sym n)))

pub checks_exact : ChecksAreExact
checks_exact info e b = record {
  sized = length_checks info e;
  coded = checks_coded info e b;
  only = λ d f k. checks_unique info d e f k;
}

-- ---- the register

pub length-next : (r : List ℕ) (b : ℕ) → length r ≡ 16 → length (next r b) ≡ 16
unfolding next
length-next [] b e = absurd (omega arith)
length-next (a ∷ r) b e =
    let p : List ℕ = scale (sum a b) lower in
    let f : length p ≡ 16 = length-multiple (sum a b) in
    ap length (add_comm p r) ∙ length-add r p (omega arith) ∙ f

pub length_run : (r bs : List ℕ) → length r ≡ 16 → length (run r bs) ≡ 16
unfolding run
length_run r [] e = e
length_run r (b ∷ bs) e = length_run (next r b) bs (length-next r b e)

-- it divides what comes, with what it holds added at the front
pub run-remainder : (r bs : List ℕ) → length r ≡ 16 → run r bs ≡ remainder (length bs) (add r (bs ++ zeros 16))
unfolding run next remainder add
run-remainder r [] e = sym (add_zeros r 16 (omega arith))
run-remainder [] (b ∷ bs) e = absurd (omega arith)
run-remainder (a ∷ r) (b ∷ bs) e =
    run-remainder (add (scale (sum a b) lower) r) bs (length-next (a ∷ r) b e)
    ∙ ap (remainder (length bs)) (add_assoc (scale (sum a b) lower) r (bs ++ zeros 16))

pub run_checks : (info : List ℕ) → length info ≡ 239 → run (zeros 16) info ≡ checks_of info
unfolding checks_of
run_checks info e =
    let n : length (info ++ zeros 16) ≡ 239 + 16 = padded info e in
    run-remainder (zeros 16) info (length_zeros 16)
    ∙ ap₂ remainder e (zeros_add 16 (info ++ zeros 16) (omega arith))

-- the remainder of a row: the register after its information bytes, and its checks added
pub run_row : (info c : List ℕ) → length info ≡ 239 → length c ≡ 16 → remainder 239 (info ++ c) ≡ add (run (zeros 16) info) c
run_row info c e f = remainder-row info c e f ∙ ap (λ (r : List ℕ). add r c) (sym (run_checks info e))

-- Eight bytes at once: the register is linear, so what a word leaves is the sum of what its half bytes leave.
-- Assumes nothing.
use mathlib.Core.Path.{◌≡◌, refl, sym, ap, ap₂, ◌∙◌, subst}
use mathlib.Core.List.{List, [], ◌∷◌, ◌++◌}
use Prim.Native.Nat.{ℕ, zero, suc, ◌+◌, ◌*◌, ◌/◌, ◌%◌, ◌^◌, ◌<◌, ◌≤◌}
use native.Mathlib.Nat.{mul_assoc, zero-mul, add-mul, mul-le-mul_right, div-add-mod'}
use native.Mathlib.Omega.{arith}
use lib.ListN.{length, get_or, length-append}
use lib.Pow.{pow-add, shl_lt}
use lib.Bits.{bit_xor, xor_shifted}
use Rattle.ground.specs.Bits.{sum}
use Rattle.ground.proofs.Sums.{sum_zero, zero_sum, swap4}
use Rattle.code.specs.Code.{add, scale}
use Rattle.code.specs.Search.{lower, remainder}
use Rattle.code.specs.Register.{next, run}
use Rattle.code.proofs.Lists.{zeros, length_zeros, length-add, add_comm, add_assoc, add_self, zeros_add, add_zeros, add-front, scale-sum}
use Rattle.code.proofs.Division.{length-multiple, length-next, length_run, run-remainder, remainder-add}
use Rattle.encoding.specs.InnerRegister.{unpack, both, through, Halves}
use Rattle.encoding.proofs.Words.{length-unpack, length_both, unpack_zero, unpack-xor, unpack_push, unpack-byte, unpack-top, both-xor, add-beside}

pub run-append : (r a b : List ℕ) → run r (a ++ b) ≡ run (run r a) b
unfolding run
run-append r [] b = refl
run-append r (x ∷ a) b = run-append (next r x) a b

-- ---- the register is linear

add_swap : (a b c d : List ℕ) → add (add a b) (add c d) ≡ add (add a c) (add b d)
add_swap a b c d =
    add_assoc a b (add c d)
    ∙ ap (add a) (sym (add_assoc b c d) ∙ ap (λ (l : List ℕ). add l d) (add_comm b c) ∙ add_assoc c b d)
    ∙ sym (add_assoc a c (add b d))

next-add : (r s : List ℕ) (a b : ℕ) → length r ≡ length s → next (add r s) (sum a b) ≡ add (next r a) (next s b)
unfolding next add
next-add [] [] a b e = refl
next-add [] (y ∷ s) a b e = absurd (omega arith)
next-add (x ∷ r) [] a b e = absurd (omega arith)
next-add (x ∷ r) (y ∷ s) a b e =
    ap (λ (k : ℕ). add (scale k lower) (add r s)) (swap4 x y a b)
    ∙ ap (λ (l : List ℕ). add l (add r s)) (scale-sum (sum x a) (sum y b) lower)
    ∙ add_swap (scale (sum x a) lower) (scale (sum y b) lower) r s

run-add : (r s a b : List ℕ) → length r ≡ 16 → length s ≡ 16 → length a ≡ length b → run (add r s) (add a b) ≡ add (run r a) (run s b)
unfolding run add
run-add r s [] [] e f g = refl
run-add r s [] (y ∷ b) e f g = absurd (omega arith)
run-add r s (x ∷ a) [] e f g = absurd (omega arith)
run-add r s (x ∷ a) (y ∷ b) e f g =
    ap (λ (l : List ℕ). run l (add a b)) (next-add r s x y (e ∙ sym f))
    ∙ run-add (next r x) (next s y) a b (length-next r x e) (length-next s y f) (omega arith)

pub length-through : (w : ℕ) → length (through w) ≡ 16
unfolding through
length-through w = length_run (zeros 16) (unpack 8 w) (length_zeros 16)

pub through-xor : (v w : ℕ) → through (bit_xor v w) ≡ add (through v) (through w)
unfolding through
through-xor v w =
    ap₂ run (sym (zeros_add 16 (zeros 16) (omega arith))) (unpack-xor 8 v w)
    ∙ run-add (zeros 16) (zeros 16) (unpack 8 v) (unpack 8 w) (length_zeros 16) (length_zeros 16) (length-unpack 8 v ∙ sym (length-unpack 8 w))

-- nothing, from nothing
pub next_zeros : next (zeros 16) 0 ≡ zeros 16
next_zeros =
    ap₂ next (sym (zeros_add 16 (zeros 16) (omega arith))) (sym (sum_zero 0))
    ∙ next-add (zeros 16) (zeros 16) 0 0 refl
    ∙ add_self (next (zeros 16) 0)
    ∙ ap zeros (length-next (zeros 16) 0 (length_zeros 16))

pub through_zero : through 0 ≡ zeros 16
through_zero = through-xor 0 0 ∙ add_self (through 0) ∙ ap zeros (length-through 0)

run_zeros : (n : ℕ) → run (zeros 16) (zeros n) ≡ zeros 16
unfolding run
run_zeros zero = refl
run_zeros (suc n) = ap (λ (r : List ℕ). run r (zeros n)) next_zeros ∙ run_zeros n

-- a byte by itself
pub through-byte : (b : ℕ) → b < 256 → through b ≡ scale b lower
unfolding through run next
through-byte b h =
    let n : length (scale b lower) ≡ 16 = length-multiple b in
    ap (run (zeros 16)) (unpack-byte b h) ∙ run-append (zeros 16) (zeros 7) (b ∷ [])
    ∙ ap (λ (r : List ℕ). next r b) (run_zeros 7)
    ∙ ap (λ (k : ℕ). add (scale k lower) (zeros 15)) (zero_sum b) ∙ add_zeros (scale b lower) 15 (omega arith)

-- a byte of 0 more behind a word
pub through-next : (w : ℕ) → w < 2 ^ 56 → next (through w) 0 ≡ through (w * 256)
unfolding through run
through-next w h =
    let e : w * 256 ≡ w * 256 + 0 = omega arith in
    ap (λ (r : List ℕ). next r 0) (ap (run (zeros 16)) (unpack-top w h) ∙ ap (λ (r : List ℕ). run r (unpack 7 w)) next_zeros)
    ∙ sym (ap (λ (k : ℕ). run (zeros 16) (unpack 8 k)) e ∙ ap (run (zeros 16)) (unpack_push 7 w 0 (omega arith)) ∙ run-append (zeros 16) (unpack 7 w) (0 ∷ []))

-- ---- one turn

add-ahead : (v s : List ℕ) → add v (zeros (length v) ++ s) ≡ v ++ s
unfolding add
add-ahead [] s = refl
add-ahead (x ∷ v) s = ap₂ ◌∷◌ (sum_zero x) (add-ahead v s)

-- the bytes of a are fed to nothing: they are divided with sixteen zeros behind them
run-nothing : (a : List ℕ) → run (zeros 16) a ≡ remainder (length a) (a ++ zeros 16)
run-nothing a =
    let e : length (a ++ zeros 16) ≡ length a + 16 = length-append a (zeros 16) in
    run-remainder (zeros 16) a (length_zeros 16) ∙ ap (remainder (length a)) (zeros_add 16 (a ++ zeros 16) (omega arith))

-- the first half of the register goes with the bytes, the second half moves up
parted : (u v b : List ℕ) → length u ≡ 8 → length v ≡ 8 → length b ≡ 8 → run (u ++ v) b ≡ add (run (zeros 16) (add u b)) (v ++ zeros 8)
parted u v b e f g =
    let a : List ℕ = add u b in
    let s : List ℕ = v ++ zeros 8 in
    let n : length a ≡ 8 = length-add u b (omega arith) ∙ g in
    let o : length s ≡ 16 = length-append v (zeros 8) ∙ omega arith in
    let p : length (a ++ zeros 16) ≡ 8 + 16 = length-append a (zeros 16) ∙ omega arith in
    run-remainder (u ++ v) b (length-append u v ∙ omega arith)
    ∙ ap₂ remainder g
    (add-beside u v b (zeros 16) (e ∙ sym g)
    ∙ ap (λ (l : List ℕ). a ++ l) (ap (λ (k : ℕ). add v (zeros k ++ zeros 8)) (sym f) ∙ add-ahead v (zeros 8))
    ∙ sym (add-front 8 a s n) ∙ ap (λ (k : ℕ). add (a ++ zeros k) (zeros 8 ++ s)) o)
    ∙ remainder-add 8 (a ++ zeros 16) s p
    ∙ ap (λ (l : List ℕ). add l s) (ap (λ (k : ℕ). remainder k (a ++ zeros 16)) (sym n) ∙ sym (run-nothing a))

pub turned : (h l x : ℕ) → run (both h l) (unpack 8 x) ≡ add (through (bit_xor h x)) (both l 0)
unfolding both through
turned h l x =
    parted (unpack 8 h) (unpack 8 l) (unpack 8 x) (length-unpack 8 h) (length-unpack 8 l) (length-unpack 8 x)
    ∙ ap₂ (λ (a b : List ℕ). add (run (zeros 16) a) (unpack 8 l ++ b)) (sym (unpack-xor 8 h x)) (sym unpack_zero)

-- ---- the half bytes of a word, from the lowest on

half_lt : (w : ℕ) → w % 16 < 2 ^ 4
half_lt w = omega arith

-- the lowest half byte, and the others
through_half : (w k : ℕ) → through (w * 2 ^ (k * 4)) ≡ add (through (w % 16 * 2 ^ (k * 4))) (through (w / 16 * 2 ^ (4 + k * 4)))
through_half w k =
    let a : ℕ = w / 16 in
    let b : ℕ = w % 16 in
    let p : ℕ = 2 ^ (k * 4) in
    let e : a * 2 ^ (4 + k * 4) ≡ a * 16 * p = ap (λ (n : ℕ). a * n) (pow-add 2 4 (k * 4)) ∙ sym (mul_assoc a 16 p) in
    let s : w ≡ a * 16 + b = sym (div-add-mod' w 16) in
    ap through (ap (λ (n : ℕ). n * p) s ∙ add-mul (a * 16) b p ∙ ap (λ (n : ℕ). n + b * p) (sym e) ∙ sym (xor_shifted a (4 + k * 4) (b * p) (shl_lt 4 (k * 4) (half_lt w))))
    ∙ through-xor (a * 2 ^ (4 + k * 4)) (b * p)
    ∙ add_comm (through (a * 2 ^ (4 + k * 4))) (through (b * p))

-- k half bytes of w₀ have been added to h and l; what is left of it is w
pub record Turning (w₀ h₀ w h l k : ℕ) : Type 0 where
  pub within : k ≤ 16
  pub small : w * 2 ^ (k * 4) ≤ w₀
  pub left : add (both h l) (through (w * 2 ^ (k * 4))) ≡ add (both h₀ 0) (through w₀)

pub turning_start : (w h : ℕ) → Turning w h w h 0 0
turning_start w h =
    let e : w * 1 ≡ w = omega arith in
    record { within = omega arith; small = omega arith; left = ap (λ (n : ℕ). add (both h 0) (through n)) e }

pub turning_more : (t : List ℕ) (w₀ h₀ w h l k i : ℕ) → Halves t → k < 16 → i ≡ 32 * k + 2 * (w % 16) → Turning w₀ h₀ w h l k
    → Turning w₀ h₀ (w / 16) (bit_xor h (get_or t i 0)) (bit_xor l (get_or t (i + 1) 0)) (k + 1)
turning_more t w₀ h₀ w h l k i f j e r =
    let n : (k + 1) * 4 ≡ 4 + k * 4 = omega arith in
    let p : w / 16 * 2 ^ ((k + 1) * 4) ≡ w / 16 * 2 ^ (4 + k * 4) = ap (λ (m : ℕ). w / 16 * 2 ^ m) n in
    let q : both (get_or t i 0) (get_or t (i + 1) 0) ≡ through (w % 16 * 2 ^ (k * 4)) =
    ap (λ (m : ℕ). both (get_or t m 0) (get_or t (m + 1) 0)) e ∙ f.entry k (w % 16) j (half_lt w) in
    let o : w / 16 * 2 ^ (4 + k * 4) ≡ w / 16 * 16 * 2 ^ (k * 4) =
    ap (λ (m : ℕ). w / 16 * m) (pow-add 2 4 (k * 4)) ∙ sym (mul_assoc (w / 16) 16 (2 ^ (k * 4))) in
    let u : w / 16 * 16 * 2 ^ (k * 4) ≤ w * 2 ^ (k * 4) = mul-le-mul_right (2 ^ (k * 4)) (omega arith) in
    let v : w * 2 ^ (k * 4) ≤ w₀ = r.small in
    record {
      within = omega arith;
      small = omega arith;
      left =
          ap₂ (λ (a : List ℕ) (m : ℕ). add a (through m)) (both-xor h l (get_or t i 0) (get_or t (i + 1) 0)) p
          ∙ ap (λ (a : List ℕ). add (add (both h l) a) (through (w / 16 * 2 ^ (4 + k * 4)))) q
          ∙ add_assoc (both h l) (through (w % 16 * 2 ^ (k * 4))) (through (w / 16 * 2 ^ (4 + k * 4)))
          ∙ ap (add (both h l)) (sym (through_half w k))
          ∙ r.left;
    }

pub turning_done : (w₀ h₀ w h l k : ℕ) → 16 ≤ k → w₀ < 2 ^ 64 → Turning w₀ h₀ w h l k → both h l ≡ add (both h₀ 0) (through w₀)
turning_done w₀ h₀ w h l k j b r =
    let m : k ≤ 16 = r.within in
    let e : k ≡ 16 = omega arith in
    let s : w * 2 ^ 64 ≤ w₀ = subst (λ (n : ℕ). w * 2 ^ (n * 4) ≤ w₀) e r.small in
    let o : w ≡ 0 = omega arith in
    let z : w * 2 ^ (k * 4) ≡ 0 = ap (λ (n : ℕ). n * 2 ^ (k * 4)) o ∙ zero-mul (2 ^ (k * 4)) in
    sym (add_zeros (both h l) 16 (omega (arith, length_both h l)))
    ∙ ap (add (both h l)) (sym (ap through z ∙ through_zero)) ∙ r.left

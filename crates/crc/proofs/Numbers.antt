-- Bytes as one number, and a list that goes in as the bits of its number.
-- Assumes nothing.
use mathlib.Core.Path.{◌≡◌, sym, ap, ap₂, ◌∙◌}
use mathlib.Core.List.{List, [], ◌∷◌, ◌++◌}
use Prim.Native.Nat.{ℕ, zero, suc, ◌+◌, ◌*◌, ◌/◌, ◌%◌, ◌^◌, ◌<◌, ◌≤◌}
use native.Mathlib.Nat.{mod-lt, mod-mod, mod-eq_of_lt, zero-lt-suc, add-mul, add_assoc, mul_assoc}
use native.Mathlib.Omega.{arith}
use lib.Arith.{digits_lt}
use lib.ListN.{length, take, drop, length-append, length-drop}
use lib.Pow.{pow-add, high, low}
use lib.Seq.{take-add, length-take-le}
use Rattle.crc.specs.Crc.{bits, feed}
use Rattle.crc.specs.Table.{number}
use Rattle.crc.proofs.Linear.{bits_none, bits-append, bits-low}

eight_more : (n : ℕ) → suc n * 8 ≡ 8 + n * 8
eight_more n = omega arith

pub number_lt : (bs : List ℕ) → number bs < 2 ^ (length bs * 8)
unfolding number
number_lt [] = zero-lt-suc zero
number_lt (b ∷ bs) =
    rw (eight_more, pow-add 2 8 (length bs * 8)) (digits_lt (mod-lt b (zero-lt-suc 255)) (number_lt bs))

pub number-take_lt : (n : ℕ) (bs : List ℕ) → n ≤ length bs → number (take n bs) < 2 ^ (n * 8)
number-take_lt n bs h = rw (length-take-le n bs h) at (number_lt (take n bs))

-- the number of joined lists: the first one's, moved up, and the second one's
pub number_append : (xs ys : List ℕ) → number (xs ++ ys) ≡ number xs * 2 ^ (length ys * 8) + number ys
unfolding number
number_append [] ys = omega arith
number_append (x ∷ xs) ys =
    let n : ℕ = length xs * 8 in
    let m : ℕ = length ys * 8 in
    let e : length (xs ++ ys) * 8 ≡ n + m = ap (λ (k : ℕ). k * 8) (length-append xs ys) ∙ omega arith in
    ap₂ (λ (p q : ℕ). x % 256 * p + q) (ap (λ (k : ℕ). 2 ^ k) e ∙ pow-add 2 n m) (number_append xs ys)
    ∙ ap (λ (p : ℕ). p + (number xs * 2 ^ m + number ys)) (sym (mul_assoc (x % 256) (2 ^ n) (2 ^ m)))
    ∙ sym (add_assoc (x % 256 * 2 ^ n * 2 ^ m) (number xs * 2 ^ m) (number ys))
    ∙ ap (λ (p : ℕ). p + number ys) (sym (add-mul (x % 256 * 2 ^ n) (number xs) (2 ^ m)))

-- the first m + n bytes, in two parts
pub number-take : (m n : ℕ) (bs : List ℕ) → m + n ≤ length bs → number (take (m + n) bs) ≡ number (take m bs) * 2 ^ (n * 8) + number (take n (drop m bs))
number-take m n bs h =
    let e : length (take n (drop m bs)) ≡ n = length-take-le n (drop m bs) (simp length-drop (omega arith)) in
    ap number (take-add m n bs) ∙ number_append (take m bs) (take n (drop m bs))
    ∙ ap (λ (k : ℕ). number (take m bs) * 2 ^ (k * 8) + number (take n (drop m bs))) e

-- only the low byte of each counts, so one byte is its low byte
pub number_one : (b : ℕ) → number (b ∷ []) ≡ b % 256
unfolding number
number_one b = omega arith

pub feed-bits : (w g r : ℕ) (bs : List ℕ) → feed w g r bs ≡ bits w g (length bs * 8) r (number bs)
unfolding feed number
feed-bits w g r [] = sym (bits_none w g r zero)
feed-bits w g r (b ∷ bs) =
    let l : ℕ = length bs * 8 in
    let n : ℕ = b % 256 * 2 ^ l + number bs in
    let first : b % 256 ≡ n / 2 ^ l % 256 = sym (ap (λ (x : ℕ). x % 256) (high (b % 256) l (number_lt bs)) ∙ mod-mod b 256) in
    let rest : number bs % 2 ^ l ≡ n % 2 ^ l = mod-eq_of_lt (number_lt bs) ∙ sym (low (b % 256) l (number_lt bs)) in
    ap (λ (x : ℕ). feed w g x bs) (bits-low w g 8 r b (n / 2 ^ l) first)
    ∙ feed-bits w g (bits w g 8 r (n / 2 ^ l)) bs
    ∙ bits-low w g l (bits w g 8 r (n / 2 ^ l)) (number bs) n rest
    ∙ sym (bits-append w g 8 l r n)
    ∙ ap (λ (k : ℕ). bits w g k r n) (sym (eight_more (length bs)))

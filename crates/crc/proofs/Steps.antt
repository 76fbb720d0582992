-- What the code computes for one, two, four and sixteen bytes is what the walk over a table says.
-- Assumes nothing.
use mathlib.Core.Path.{◌≡◌, sym, ap, ap₂, ◌∙◌}
use mathlib.Core.List.{List, [], ◌∷◌}
use Prim.Native.Nat.{ℕ, suc, ◌+◌, ◌*◌, ◌/◌, ◌%◌, ◌^◌, ◌<◌, ◌≤◌}
use native.Mathlib.Nat.{mod-eq_of_lt, mul-mod_left, mul-div_cancel, mul_assoc, mul-one, add-zero}
use native.Mathlib.Numerals.{add-one}
use native.Mathlib.Omega.{arith}
use lib.Bits.{xor_block}
use lib.ListN.{length, get_or, take, drop, length-drop}
use lib.Pow.{pow_pos, pow-add, shr-shr, high, low}
use lib.Seq.{drop-cons}
use Rattle.ground.specs.Bits.{sum}
use Rattle.ground.proofs.Sums.{sum_zero}
use Rattle.crc.specs.Table.{number, entries, group_by}
use Rattle.crc.proofs.Numbers.{number_one, number-take, number-take_lt}
use Rattle.crc.proofs.Entries.{entries-append, entries-low}

-- ---- entries of two half bytes, and of eight
module _ (t : List ℕ) (k v : ℕ) where
  pub two_is : entries t k 2 v ≡ sum (get_or t (k * 16 + v % 16) 0) (get_or t ((k + 1) * 16 + v / 16 % 16) 0)
  unfolding entries
  two_is = ap (sum (get_or t (k * 16 + v % 16) 0)) (sum_zero (get_or t ((k + 1) * 16 + v / 16 % 16) 0))

  pub eight_is : entries t k 8 v
      ≡ sum (entries t k 2 v) (sum (entries t (k + 2) 2 (v / 256)) (sum (entries t (k + 4) 2 (v / 65536)) (entries t (k + 6) 2 (v / 16777216))))
  eight_is =
      let p : k + 2 + 2 ≡ k + 4 = omega arith in
      let q : k + 4 + 2 ≡ k + 6 = omega arith in
      entries-append t 2 6 k v
      ∙ ap (sum (entries t k 2 v)) (entries-append t 2 4 (k + 2) (v / 256)
      ∙ ap (sum (entries t (k + 2) 2 (v / 256))) (ap₂ (λ (i x : ℕ). entries t i 4 x) p (shr-shr v 8 8)
      ∙ entries-append t 2 2 (k + 4) (v / 65536)
      ∙ ap (sum (entries t (k + 4) 2 (v / 65536))) (ap₂ (λ (i x : ℕ). entries t i 2 x) q (shr-shr v 16 8))))

-- ---- a group of four bytes
pub four_group : (t : List ℕ) (r : ℕ) (bs : List ℕ) → group_by 32 t 4 r bs ≡ entries t 0 8 (sum r (number (take 4 bs)))
unfolding group_by
four_group t r bs =
    ap₂ (λ (x y : ℕ). sum (entries t 0 8 (sum x (number (take 4 bs)))) y)
    (mul-div_cancel r (pow_pos 32)) (mul-mod_left r (2 ^ 32))
    ∙ sum_zero (entries t 0 8 (sum r (number (take 4 bs))))

-- ---- bytes of a list: one, and four as one number
one_more : (d : List ℕ) (i n : ℕ) → i < length d → take (suc n) (drop i d) ≡ get_or d i 0 ∷ take n (drop (i + 1) d)
one_more d i n h = rw (add-one i, drop-cons d i 0)

pub one_is : (t : List ℕ) (r b x : ℕ) → b < 256 → x ≡ entries t 0 2 (sum (r / 16777216) b) → sum x (r * 256 % 4294967296) ≡ group_by 32 t 1 r (b ∷ [])
unfolding group_by
one_is t r b x l f =
    let p : r / 16777216 ≡ r * 256 / 4294967296 = omega arith in
    let n : b ≡ number (b ∷ []) = sym (number_one b ∙ mod-eq_of_lt l) in
    ap (λ (y : ℕ). sum y (r * 256 % 4294967296)) (f ∙ ap₂ (λ (y z : ℕ). entries t 0 2 (sum y z)) p n)

four_bytes_lem : (d : List ℕ) (i : ℕ) → i + 4 ≤ length d
    → take 4 (drop i d) ≡ get_or d i 0 ∷ get_or d (i + 1) 0 ∷ get_or d (i + 2) 0 ∷ get_or d (i + 3) 0 ∷ []
four_bytes_lem d i h =
    let p : i + 1 + 1 ≡ i + 2 = omega arith in
    let q : i + 2 + 1 ≡ i + 3 = omega arith in
    one_more d i 3 (omega arith)
    ∙ ap (λ (l : List ℕ). get_or d i 0 ∷ l) (one_more d (i + 1) 2 (omega arith)
    ∙ ap (λ (l : List ℕ). get_or d (i + 1) 0 ∷ l) (ap (λ (j : ℕ). take 2 (drop j d)) p ∙ one_more d (i + 2) 1 (omega arith)
    ∙ ap (λ (l : List ℕ). get_or d (i + 2) 0 ∷ l) (ap (λ (j : ℕ). take 1 (drop j d)) q ∙ one_more d (i + 3) 0 (omega arith))))

pub word_is : (d : List ℕ) (i : ℕ) → i + 4 ≤ length d → ((k : ℕ) → get_or d k 0 < 256)
    → get_or d i 0 * 16777216 + get_or d (i + 1) 0 * 65536 + get_or d (i + 2) 0 * 256 + get_or d (i + 3) 0 ≡ number (take 4 (drop i d))
unfolding number
word_is d i h l = sym (ap number (four_bytes_lem d i h) ∙ omega (arith, l i, l (i + 1), l (i + 2), l (i + 3)))

-- ---- a group of sixteen bytes: the last word first, and then what stands above it
word_lt : (m : ℕ) (bs : List ℕ) → m + 4 ≤ length bs → number (take 4 (drop m bs)) < 2 ^ 32
word_lt m bs h = number-take_lt 4 (drop m bs) (simp length-drop (omega arith))

last_word : (r j m : ℕ) (bs : List ℕ) → m + 4 ≤ length bs
    → sum (r * 2 ^ (j + 32)) (number (take (m + 4) bs)) ≡ sum (r * 2 ^ j) (number (take m bs)) * 2 ^ 32 + number (take 4 (drop m bs))
unfolding sum
last_word r j m bs h =
    ap₂ sum (ap (λ (x : ℕ). r * x) (pow-add 2 j 32) ∙ sym (mul_assoc r (2 ^ j) (2 ^ 32)) ∙ sym (add-zero (r * 2 ^ j * 2 ^ 32))) (number-take m 4 bs h)
    ∙ xor_block 32 (r * 2 ^ j) (number (take m bs)) 0 (number (take 4 (drop m bs))) (pow_pos 32) (word_lt m bs h)

entries-last : (t : List ℕ) (k n r j m : ℕ) (bs : List ℕ) → m + 4 ≤ length bs
    → entries t k (8 + n) (sum (r * 2 ^ (j + 32)) (number (take (m + 4) bs)))
    ≡ sum (entries t k 8 (number (take 4 (drop m bs)))) (entries t (k + 8) n (sum (r * 2 ^ j) (number (take m bs))))
entries-last t k n r j m bs h =
    let x : ℕ = sum (r * 2 ^ j) (number (take m bs)) in
    let y : ℕ = number (take 4 (drop m bs)) in
    let l : y < 2 ^ 32 = word_lt m bs h in
    ap (entries t k (8 + n)) (last_word r j m bs h)
    ∙ entries-append t 8 n k (x * 2 ^ 32 + y)
    ∙ ap₂ (λ (u v : ℕ). sum u (entries t (k + 8) n v)) (entries-low t 8 k (x * 2 ^ 32 + y) y (low x 32 l ∙ sym (mod-eq_of_lt l))) (high x 32 l)

pub sixteen_is : (t : List ℕ) (r : ℕ) (bs : List ℕ) → 16 ≤ length bs → group_by 32 t 16 r bs
    ≡ sum (entries t 0 8 (number (take 4 (drop 12 bs)))) (sum (entries t 8 8 (number (take 4 (drop 8 bs))))
    (sum (entries t 16 8 (number (take 4 (drop 4 bs)))) (entries t 24 8 (sum r (number (take 4 bs))))))
unfolding group_by
sixteen_is t r bs l =
    let up : r * 2 ^ 128 ≡ r * 2 ^ 96 * 2 ^ 32 = sym (mul_assoc r (2 ^ 96) (2 ^ 32)) in
    let same : r * 2 ^ 0 ≡ r = mul-one r in
    ap₂ (λ (x y : ℕ). sum (entries t 0 32 (sum x (number (take 16 bs)))) y)
    (ap (λ (x : ℕ). x / 2 ^ 32) up ∙ mul-div_cancel (r * 2 ^ 96) (pow_pos 32)) (ap (λ (x : ℕ). x % 2 ^ 32) up ∙ mul-mod_left (r * 2 ^ 96) (2 ^ 32))
    ∙ sum_zero (entries t 0 32 (sum (r * 2 ^ 96) (number (take 16 bs))))
    ∙ entries-last t 0 24 r 64 12 bs l
    ∙ ap (sum (entries t 0 8 (number (take 4 (drop 12 bs))))) (entries-last t 8 16 r 32 8 bs (omega arith)
    ∙ ap (sum (entries t 8 8 (number (take 4 (drop 8 bs))))) (entries-last t 16 8 r 0 4 bs (omega arith)
    ∙ ap (λ (x : ℕ). sum (entries t 16 8 (number (take 4 (drop 4 bs)))) (entries t 24 8 (sum x (number (take 4 bs))))) same))

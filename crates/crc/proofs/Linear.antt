-- The register is linear over exclusive or (source document 000, Annex C), and bits go in at its top. Every law is over the width w and the polynomial g.
-- Assumes nothing.
use mathlib.Core.Path.{◌≡◌, refl, sym, ap, ap₂, ◌∙◌}
use mathlib.Core.List.{List, [], ◌∷◌, ◌++◌}
use Prim.Native.Nat.{ℕ, zero, suc, ◌+◌, ◌-◌, ◌*◌, ◌/◌, ◌%◌, ◌^◌, ◌<◌}
use native.Mathlib.Nat.{mod-lt, zero-div, mod-eq_of_lt, pow-suc, mul-one, mul_assoc, mul_comm, suc-add, zero-add, add_comm, add-mul-mod_self_right, add-mul-div_right, mod-add-div', add-mul, mul_right_comm, mul-div-mul_right}
use native.Mathlib.Omega.{arith}
use lib.ListN.{length}
use lib.Pow.{pow_pos, pow-add, field, mod-mod-pow, shr-shr}
use Rattle.ground.specs.Bits.{sum, keep}
use Rattle.ground.proofs.Sums.{sum_assoc, sum_self, sum_zero, zero_sum, sum_shr, sum-mod, sum_twice, swap4, odd_keep}
use Rattle.crc.specs.Crc.{bit, bits, feed}

-- two lists of one length, added byte by byte
abbrev pub sums : List ℕ → List ℕ → List ℕ
sums [] ys = []
sums (x ∷ xs) [] = []
sums (x ∷ xs) (y ∷ ys) = sum x y ∷ sums xs ys

-- ---- numbers

times_mod : (a c n : ℕ) → (a % n) * c % n ≡ a * c % n
times_mod a c n =
    sym (add-mul-mod_self_right ((a % n) * c) (a / n * c) n)
    ∙ ap (λ (x : ℕ). ((a % n) * c + x) % n) (mul_right_comm (a / n) c n)
    ∙ ap (λ (x : ℕ). x % n) (sym (add-mul (a % n) (a / n * n) c))
    ∙ ap (λ (x : ℕ). x * c % n) (mod-add-div' a n)

-- what leaves at the top, modulo c, does not ask for the places above
times-div : (a c n : ℕ) → 0 < n → (a % n) * c / n % c ≡ a * c / n % c
times-div a c n h =
    sym (add-mul-mod_self_right ((a % n) * c / n) (a / n) c)
    ∙ ap (λ (x : ℕ). x % c)
    (sym (add-mul-div_right ((a % n) * c) (a / n * c) h)
    ∙ ap (λ (x : ℕ). ((a % n) * c + x) / n) (mul_right_comm (a / n) c n)
    ∙ ap (λ (x : ℕ). x / n) (sym (add-mul (a % n) (a / n * n) c))
    ∙ ap (λ (x : ℕ). x * c / n) (mod-add-div' a n))

one_more : (m : ℕ) → 2 ^ (1 + m) ≡ 2 ^ suc m
one_more m = ap (λ (x : ℕ). 2 ^ x) (omega arith)

low_bit : (a b m : ℕ) → a % 2 ^ suc m ≡ b % 2 ^ suc m → a / 2 ^ m % 2 ≡ b / 2 ^ m % 2
low_bit a b m e =
    sym (field a 1 m) ∙ ap (λ (x : ℕ). x / 2 ^ m) (ap (λ (x : ℕ). a % x) (one_more m) ∙ e ∙ ap (λ (x : ℕ). b % x) (sym (one_more m))) ∙ field b 1 m

low_rest : (a b m : ℕ) → a % 2 ^ suc m ≡ b % 2 ^ suc m → a % 2 ^ m ≡ b % 2 ^ m
low_rest a b m e =
    sym (mod-mod-pow a 1 m) ∙ ap (λ (x : ℕ). x % 2 ^ m) (ap (λ (x : ℕ). a % x) (one_more m) ∙ e ∙ ap (λ (x : ℕ). b % x) (sym (one_more m))) ∙ mod-mod-pow b 1 m

-- once up and m times up is suc m times up
up_more : (r m : ℕ) → r * 2 * 2 ^ m ≡ r * 2 ^ suc m
up_more r m = mul_assoc r 2 (2 ^ m) ∙ ap (λ (x : ℕ). r * x) (mul_comm 2 (2 ^ m) ∙ sym (pow-suc 2 m))

module _ (w g : ℕ) where
  -- ---- one bit, n bits and a list go in linearly
  pub bit_linear : (r s a b : ℕ) → bit w g (sum r s) (sum a b) ≡ sum (bit w g r a) (bit w g s b)
  unfolding bit
  bit_linear r s a b =
      ap₂ (λ (x y : ℕ). sum (keep (x % 2) g) (y % 2 ^ w))
      (ap (λ (x : ℕ). sum x (sum a b)) (sum_shr r s (w - 1)) ∙ swap4 (r / 2 ^ (w - 1)) (s / 2 ^ (w - 1)) a b)
      (sum_twice r s)
      ∙ ap₂ sum (odd_keep (sum (r / 2 ^ (w - 1)) a) (sum (s / 2 ^ (w - 1)) b) g) (sum-mod (r * 2) (s * 2) w)
      ∙ swap4 (keep (sum (r / 2 ^ (w - 1)) a % 2) g) (keep (sum (s / 2 ^ (w - 1)) b % 2) g) (r * 2 % 2 ^ w) (s * 2 % 2 ^ w)

  pub bits_linear : (n r s a b : ℕ) → bits w g n (sum r s) (sum a b) ≡ sum (bits w g n r a) (bits w g n s b)
  unfolding bits
  bits_linear zero r s a b = refl
  bits_linear (suc n) r s a b =
      ap (λ (x : ℕ). bits w g n x (sum a b))
      (ap (bit w g (sum r s)) (sum_shr a b n) ∙ bit_linear r s (a / 2 ^ n) (b / 2 ^ n))
      ∙ bits_linear n (bit w g r (a / 2 ^ n)) (bit w g s (b / 2 ^ n)) a b

  pub feed_linear : (r s : ℕ) (xs ys : List ℕ) → length xs ≡ length ys → feed w g (sum r s) (sums xs ys) ≡ sum (feed w g r xs) (feed w g s ys)
  unfolding feed
  feed_linear r s [] [] e = refl
  feed_linear r s [] (y ∷ ys) e = absurd (omega arith)
  feed_linear r s (x ∷ xs) [] e = absurd (omega arith)
  feed_linear r s (x ∷ xs) (y ∷ ys) e =
      ap (λ (z : ℕ). feed w g z (sums xs ys)) (bits_linear 8 r s x y) ∙ feed_linear (bits w g 8 r x) (bits w g 8 s y) xs ys (omega arith)

  -- the register in two parts: one with zeros, one with the bits
  pub bits_split : (n r s b : ℕ) → bits w g n (sum r s) b ≡ sum (bits w g n r zero) (bits w g n s b)
  bits_split n r s b = ap (bits w g n (sum r s)) (sym (zero_sum b)) ∙ bits_linear n r s zero b

  pub bits_zero : (n : ℕ) → bits w g n zero zero ≡ zero
  bits_zero n =
      ap (λ (x : ℕ). bits w g n x zero) (sym (zero_sum zero)) ∙ bits_split n zero zero zero ∙ sum_self (bits w g n zero zero)

  -- ---- parts in turn
  pub bits_none : (r b : ℕ) → bits w g zero r b ≡ r
  unfolding bits
  bits_none r b = refl

  pub feed-none : (r : ℕ) → feed w g r [] ≡ r
  unfolding feed
  feed-none r = refl

  pub feed-append : (r : ℕ) (xs ys : List ℕ) → feed w g r (xs ++ ys) ≡ feed w g (feed w g r xs) ys
  unfolding feed
  feed-append r [] ys = refl
  feed-append r (x ∷ xs) ys = feed-append (bits w g 8 r x) xs ys

  pub bits-append : (m n r b : ℕ) → bits w g (m + n) r b ≡ bits w g n (bits w g m r (b / 2 ^ n)) b
  unfolding bits
  bits-append zero n r b = ap (λ (x : ℕ). bits w g x r b) (zero-add n)
  bits-append (suc m) n r b =
      ap (λ (x : ℕ). bits w g x r b) (suc-add m n)
      ∙ bits-append m n (bit w g r (b / 2 ^ (m + n))) b
      ∙ ap (λ (x : ℕ). bits w g n (bits w g m (bit w g r x) (b / 2 ^ n)) b)
      (ap (λ (x : ℕ). b / 2 ^ x) (add_comm m n) ∙ sym (shr-shr b n m))

  -- ---- only the n low bits of what goes in count
  bit-low : (r a b : ℕ) → a % 2 ≡ b % 2 → bit w g r a ≡ bit w g r b
  unfolding bit
  bit-low r a b e =
      ap (λ (x : ℕ). sum x (r * 2 % 2 ^ w))
      (odd_keep (r / 2 ^ (w - 1)) a g ∙ ap (λ (x : ℕ). sum (keep (r / 2 ^ (w - 1) % 2) g) (keep x g)) e ∙ sym (odd_keep (r / 2 ^ (w - 1)) b g))

  pub bits-low : (n r a b : ℕ) → a % 2 ^ n ≡ b % 2 ^ n → bits w g n r a ≡ bits w g n r b
  unfolding bits
  bits-low zero r a b e = refl
  bits-low (suc n) r a b e =
      ap (λ (x : ℕ). bits w g n x a) (bit-low r (a / 2 ^ n) (b / 2 ^ n) (low_bit a b n e))
      ∙ bits-low n (bit w g r (b / 2 ^ n)) a b (low_rest a b n e)

  -- ---- n bits go in at the top of the register: they are added to the bits that leave it
  bit_zero : (b : ℕ) → bit w g zero b ≡ keep (b % 2) g
  unfolding bit
  bit_zero b =
      ap₂ (λ (x y : ℕ). sum (keep (sum x b % 2) g) y) (zero-div (2 ^ (w - 1))) (mod-eq_of_lt (pow_pos w))
      ∙ sum_zero (keep (sum zero b % 2) g) ∙ ap (λ (x : ℕ). keep (x % 2) g) (zero_sum b)

  bit_is : (r b : ℕ) → bit w g r b ≡ sum (keep (sum (r / 2 ^ (w - 1)) b % 2) g) (r * 2 % 2 ^ w)
  unfolding bit
  bit_is r b = refl

  abbrev AtTop : ℕ → ℕ → ℕ → Type 0
  AtTop n r b = bits w g n r b ≡ sum (bits w g n zero (sum (r * 2 ^ n / 2 ^ w) b)) (r * 2 ^ n % 2 ^ w)

  module _ (h : 0 < w) where
    -- of suc m bits the first one leaves, the others leave what is left
    first-leaves : (r m : ℕ) → r * 2 ^ suc m / 2 ^ w / 2 ^ m ≡ r / 2 ^ (w - 1)
    first-leaves r m =
        let e : w + m ≡ (w - 1) + suc m = omega arith in
        shr-shr (r * 2 ^ suc m) w m ∙ ap (λ (x : ℕ). r * 2 ^ suc m / x) (ap (λ (x : ℕ). 2 ^ x) e ∙ pow-add 2 (w - 1) (suc m))
        ∙ mul-div-mul_right r (2 ^ (w - 1)) (pow_pos (suc m))

    top-more : (m : ℕ) → ((r b : ℕ) → r < 2 ^ w → AtTop m r b) → (r b : ℕ) → AtTop (suc m) r b
    unfolding bits
    top-more m more r b =
        let s : ℕ = r * 2 % 2 ^ w in
        let x : ℕ = sum (r * 2 ^ suc m / 2 ^ w) b in
        let k : ℕ = keep (sum (r / 2 ^ (w - 1)) (b / 2 ^ m) % 2) g in
        let leaves : bit w g zero (x / 2 ^ m) ≡ k = bit_zero (x / 2 ^ m)
        ∙ ap (λ (y : ℕ). keep (y % 2) g) (sum_shr (r * 2 ^ suc m / 2 ^ w) b m ∙ ap (λ (y : ℕ). sum y (b / 2 ^ m)) (first-leaves r m)) in
        let same : sum (s * 2 ^ m / 2 ^ w) b % 2 ^ m ≡ x % 2 ^ m = sum-mod (s * 2 ^ m / 2 ^ w) b m
        ∙ ap (λ (y : ℕ). sum y (b % 2 ^ m)) (times-div (r * 2) (2 ^ m) (2 ^ w) (pow_pos w) ∙ ap (λ (y : ℕ). y / 2 ^ w % 2 ^ m) (up_more r m))
        ∙ sym (sum-mod (r * 2 ^ suc m / 2 ^ w) b m) in
        let moved : s * 2 ^ m % 2 ^ w ≡ r * 2 ^ suc m % 2 ^ w = times_mod (r * 2) (2 ^ m) (2 ^ w) ∙ ap (λ (y : ℕ). y % 2 ^ w) (up_more r m) in
        ap (λ (y : ℕ). bits w g m y b) (bit_is r (b / 2 ^ m))
        ∙ bits_split m k s b
        ∙ ap (sum (bits w g m k zero))
        (more s b (mod-lt (r * 2) (pow_pos w)) ∙ ap₂ sum (bits-low m zero (sum (s * 2 ^ m / 2 ^ w) b) x same) moved)
        ∙ sym (sum_assoc (bits w g m k zero) (bits w g m zero x) (r * 2 ^ suc m % 2 ^ w))
        ∙ ap (λ (y : ℕ). sum y (r * 2 ^ suc m % 2 ^ w))
        (sym (bits_split m k zero x) ∙ ap (λ (y : ℕ). bits w g m y x) (sum_zero k ∙ sym leaves))

    pub bits-top : (n r b : ℕ) → r < 2 ^ w → AtTop n r b
    unfolding bits
    bits-top zero r b l = sym (zero_sum (r * 1 % 2 ^ w) ∙ ap (λ (x : ℕ). x % 2 ^ w) (mul-one r) ∙ mod-eq_of_lt l)
    bits-top (suc m) r b l = top-more m (bits-top m) r b

    -- where at least one bit goes in the register may be of any size: what stands above its w bits does not count
    pub bits-top_any : (n r b : ℕ) → 0 < n → AtTop n r b
    bits-top_any zero r b l = absurd (omega arith)
    bits-top_any (suc m) r b l = top-more m (bits-top m) r b

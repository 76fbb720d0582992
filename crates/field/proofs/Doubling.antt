-- What the words of `doubles`, `take` and `square` hold, byte by byte: document 01, section 3, where x · b is b shifted, less p where its highest bit was 1.
-- A square is linear over the bits of the byte, so bit i gives α^(2 · i). Each byte's fact is computed over the 256 bytes.
-- Assumes nothing.
use mathlib.Core.Path.{◌≡◌, sym, ap, ap₂, ◌∙◌}
use Prim.Native.Nat.{ℕ, ◌-◌, ◌*◌, ◌/◌, ◌%◌, ◌^◌, ◌<◌, ◌≤◌}
use native.Mathlib.Nat.{div-one, mod-lt, mod-eq_of_lt, zero-lt-suc, lt_of_le_of_lt, le_of_suc-le-suc, mul-le-mul}
use native.Mathlib.Omega.{arith}
use lib.Bits.{bit_xor, bit_and, and_shr, and_mod, and_zero_r, and_le_r, xor_lt}
use lib.Dec.{ltb, ltb→lt, eqb, eqb→eq, lit<}
use lib.Pow.{pow_pos}
use Rattle.ground.specs.Bits.{sum}
use Rattle.ground.proofs.Sweep.{below}
use Rattle.words.specs.Words.{byte_at}
use Rattle.field.specs.Field.{product}
use Rattle.field.specs.Words.{Doubled}
use Rattle.field.specs.InnerWords.{Taken, Squared}
use Rattle.field.proofs.Horner.{double, horner}
use Rattle.field.proofs.Bridge.{product_horner}
use Rattle.field.proofs.Product.{product-two}
use Rattle.field.proofs.InWords.{byte_small, byte-sum, byte_and, each_byte, byte_in_word, scaled, bit_at, bits-times, masked}

-- ---- doubling

-- the byte without its highest bit stays a byte when it is shifted
off_small : (b : ℕ) → b < 256 → sum b (bit_and b 128) * 2 < 256
unfolding sum
off_small b h = ltb→lt (sum b (bit_and b 128) * 2) 256 (below (λ (x : ℕ). ltb (sum x (bit_and x 128) * 2) 256) 256 tt b h)

doubled_byte : (b : ℕ) → b < 256 → sum (sum b (bit_and b 128) * 2) (bit_and (b / 128 % 2 * 127) 0x1D) ≡ double b
unfolding sum double
doubled_byte b h =
    eqb→eq _ (double b) (below (λ (x : ℕ). eqb (sum (sum x (bit_and x 128) * 2) (bit_and (x / 128 % 2 * 127) 0x1D)) (double x)) 256 tt b h)

module _ (w : ℕ) where
  -- the highest bit of each byte
  abbrev tops : ℕ
  tops = bit_and w 0x8080808080808080

  top_byte : (k : ℕ) → k < 8 → byte_at (bit_xor w tops) k ≡ sum (byte_at w k) (bit_and (byte_at w k) 128)
  top_byte k h =
      byte-sum w tops k ∙ ap (sum (byte_at w k)) (byte_and w 0x8080808080808080 k ∙ ap (bit_and (byte_at w k)) (each_byte 128 k (lit< tt) h))

  shifted : (k : ℕ) → k < 8 → byte_at ((bit_xor w tops * 2) % 2 ^ 64) k ≡ sum (byte_at w k) (bit_and (byte_at w k) 128) * 2
  shifted k h =
      byte_in_word (bit_xor w tops * 2) k h
      ∙ scaled 2 8 (bit_xor w tops) (λ j m. rw (top_byte j m) (off_small (byte_at w j) (byte_small w j))) k h
      ∙ ap (λ (z : ℕ). z * 2) (top_byte k h)

  -- 127 where the highest bit was 1
  spread-top : tops - tops / 2 ^ 7 ≡ bit_and (w / 2 ^ 7) 0x0101010101010101 * 127
  spread-top =
      let e : tops % 128 ≡ 0 = and_mod w 0x8080808080808080 7 ∙ and_zero_r (w % 128) in
      let d : tops - tops / 128 ≡ tops / 128 * 127 = omega arith in
      d ∙ ap (λ (z : ℕ). z * 127) (and_shr w 0x8080808080808080 7)

  pub doubled : Doubled w (bit_xor ((bit_xor w tops * 2) % 2 ^ 64) (bit_and (tops - tops / 2 ^ 7) 0x1D1D1D1D1D1D1D1D))
  doubled =
      record {
        word =
            xor_lt 64 _ _ (mod-lt (bit_xor w tops * 2) (pow_pos 64))
            (lt_of_le_of_lt (and_le_r (tops - tops / 2 ^ 7) 0x1D1D1D1D1D1D1D1D) (lit< tt));
        entry =
            λ k h.
            byte-sum ((bit_xor w tops * 2) % 2 ^ 64) (bit_and (tops - tops / 2 ^ 7) 0x1D1D1D1D1D1D1D1D) k
            ∙ ap₂ sum (shifted k h)
            (byte_and (tops - tops / 2 ^ 7) 0x1D1D1D1D1D1D1D1D k
            ∙ ap₂ bit_and (ap (λ (z : ℕ). byte_at z k) spread-top ∙ bits-times 127 w 7 k (lit< tt) (lit< tt) h) (each_byte 0x1D k (lit< tt) h))
            ∙ doubled_byte (byte_at w k) (byte_small w k)
            ∙ sym (product-two (byte_at w k) (byte_small w k));
      }

-- ---- taking a byte where a bit is 1

pub taken : (s a b i : ℕ) → s < 2 ^ 64 → a < 2 ^ 64 → i < 8 → Taken s a b i (bit_xor s (bit_and (bit_and (b / 2 ^ i) 0x0101010101010101 * 255) a))
taken s a b i hs ha hi =
    let m : ℕ = bit_and (b / 2 ^ i) 0x0101010101010101 * 255 in
    record {
      word = xor_lt 64 s (bit_and m a) hs (lt_of_le_of_lt (and_le_r m a) ha);
      entry =
          λ k h.
          byte-sum s (bit_and m a) k
          ∙ ap (sum (byte_at s k))
          (byte_and m a k
          ∙ ap (λ (z : ℕ). bit_and z (byte_at a k)) (bits-times 255 b i k (lit< tt) hi h)
          ∙ masked 8 (byte_at b k / 2 ^ i % 2) (byte_at a k) (mod-lt (byte_at b k / 2 ^ i) (zero-lt-suc 1)) (byte_small a k));
    }

-- ---- squares

-- the constants of those bits of b that are 1
abbrev bit_squares : ℕ → ℕ
bit_squares b =
    sum (sum (sum (sum (b / 1 % 2) (b / 2 % 2 * 4)) (b / 4 % 2 * 16)) (b / 8 % 2 * 64))
    (sum (sum (sum (b / 16 % 2 * 0x1D) (b / 32 % 2 * 0x74)) (b / 64 % 2 * 0xCD)) (b / 128 % 2 * 0x13))

squared_byte : (b : ℕ) → b < 256 → bit_squares b ≡ horner 8 b b
unfolding sum double horner
squared_byte b h = eqb→eq (bit_squares b) (horner 8 b b) (below (λ (x : ℕ). eqb (bit_squares x) (horner 8 x x)) 256 tt b h)

-- a square of a byte, by Horner's rule
square_horner : (b : ℕ) → b < 256 → product b b ≡ horner 8 b b
square_horner b h = product_horner b b ∙ ap (λ (x : ℕ). horner 8 x x) (mod-eq_of_lt h)

-- four bits of each byte, times a constant each
byte-four : (p q r s k : ℕ) → byte_at (bit_xor (bit_xor (bit_xor p q) r) s) k ≡ sum (sum (sum (byte_at p k) (byte_at q k)) (byte_at r k)) (byte_at s k)
byte-four p q r s k =
    byte-sum (bit_xor (bit_xor p q) r) s k
    ∙ ap (λ (z : ℕ). sum z (byte_at s k)) (byte-sum (bit_xor p q) r k ∙ ap (λ (z : ℕ). sum z (byte_at r k)) (byte-sum p q k))

four_lt : (p q r s : ℕ) → p < 2 ^ 64 → q < 2 ^ 64 → r < 2 ^ 64 → s < 2 ^ 64 → bit_xor (bit_xor (bit_xor p q) r) s < 2 ^ 64
four_lt p q r s hp hq hr hs = xor_lt 64 _ s (xor_lt 64 _ r (xor_lt 64 p q hp hq) hr) hs

module _ (w : ℕ) where
  -- where d is 2^i, bit i of each byte
  abbrev bits : ℕ → ℕ
  bits d = bit_and (w / d) 0x0101010101010101

  bits_lt : (d c : ℕ) → c < 256 → bits d * c < 2 ^ 64
  bits_lt d c h =
      let a : bits d ≤ 0x0101010101010101 = and_le_r (w / d) 0x0101010101010101 in
      let b : bits d * c ≤ 0x0101010101010101 * 255 = mul-le-mul a (le_of_suc-le-suc h) in
      omega arith

  unfoldable pub lows : ℕ
  lows = bit_xor (bit_xor (bit_xor (bit_and w 0x0101010101010101) (bits 2 * 4)) (bits 4 * 16)) (bits 8 * 64)

  unfoldable pub highs : ℕ
  highs = bit_xor (bit_xor (bit_xor (bits 16 * 0x1D) (bits 32 * 0x74)) (bits 64 * 0xCD)) (bits 128 * 0x13)

  bit-none : (k : ℕ) → k < 8 → byte_at (bit_and w 0x0101010101010101) k ≡ byte_at w k / 1 % 2
  bit-none k h = ap (λ (z : ℕ). byte_at (bit_and z 0x0101010101010101) k) (sym (div-one w)) ∙ bit_at w 0 k (lit< tt) h

  pub squared : Squared w (bit_xor lows highs)
  unfolding lows highs
  squared =
      record {
        word =
            xor_lt 64 lows highs
            (four_lt _ _ _ _ (lt_of_le_of_lt (and_le_r w 0x0101010101010101) (lit< tt)) (bits_lt 2 4 (lit< tt)) (bits_lt 4 16 (lit< tt)) (bits_lt 8 64 (lit< tt)))
            (four_lt _ _ _ _ (bits_lt 16 0x1D (lit< tt)) (bits_lt 32 0x74 (lit< tt)) (bits_lt 64 0xCD (lit< tt)) (bits_lt 128 0x13 (lit< tt)));
        entry =
            λ k h.
            byte-sum lows highs k
            ∙ ap₂ sum
            (byte-four (bit_and w 0x0101010101010101) (bits 2 * 4) (bits 4 * 16) (bits 8 * 64) k
            ∙ four (bit-none k h) (bits-times 4 w 1 k (lit< tt) (lit< tt) h) (bits-times 16 w 2 k (lit< tt) (lit< tt) h) (bits-times 64 w 3 k (lit< tt) (lit< tt) h))
            (byte-four (bits 16 * 0x1D) (bits 32 * 0x74) (bits 64 * 0xCD) (bits 128 * 0x13) k
            ∙ four (bits-times 0x1D w 4 k (lit< tt) (lit< tt) h) (bits-times 0x74 w 5 k (lit< tt) (lit< tt) h) (bits-times 0xCD w 6 k (lit< tt) (lit< tt) h)
            (bits-times 0x13 w 7 k (lit< tt) (lit< tt) h))
            ∙ squared_byte (byte_at w k) (byte_small w k)
            ∙ sym (square_horner (byte_at w k) (byte_small w k));
      }
    where
      four : {p q r s p' q' r' s' : ℕ} → p ≡ p' → q ≡ q' → r ≡ r' → s ≡ s' → sum (sum (sum p q) r) s ≡ sum (sum (sum p' q') r') s'
      four a b c d = λ i. sum (sum (sum (a i) (b i)) (c i)) (d i)

-- The entries of sixteen bytes in two words: of sums, of one byte at each, of a single 1, of all of them one down.
-- Assumes nothing.
use mathlib.Core.Path.{◌≡◌, refl, sym, ap, ap₂, subst, ◌∙◌}
use mathlib.Core.Logic.{⊎_elim}
use mathlib.Core.Bool.{Bool, true, false, cond}
use mathlib.Core.List.{List}
use Prim.Native.Nat.{ℕ, zero, suc, ◌+◌, ◌-◌, ◌*◌, ◌/◌, ◌%◌, ◌^◌, ◌<◌, ◌≤◌}
use native.Mathlib.Nat.{div-div-eq-div-mul}
use native.Mathlib.Omega.{arith}
use borrow.Author.Tests.{eq-eqb, ne_eqb}
use lib.Bits.{bit_xor, xor_lt}
use lib.Dec.{eqb, eqb→eq, ltb}
use lib.ListN.{length, get_or}
use lib.Pow.{pow-add}
use lib.Seq.{ext_get_or}
use Rattle.std.proofs.lemmas.Bool.{cases_lt, cases_eq}
use Rattle.ground.specs.Bits.{sum}
use Rattle.ground.proofs.Listed.{length-listed, get_or-listed_0}
use Rattle.ground.proofs.Sums.{sum_zero, zero_sum}
use Rattle.ground.proofs.Sweep.{below}
use Rattle.words.specs.Words.{byte_at}
use Rattle.field.specs.declared.Sixteen.{Sixteen}
use Rattle.field.specs.Words.{entry}
use Rattle.errata.proofs.Listing.{beyond}
use Rattle.errata.specs.InnerValues.{list_of}
use Rattle.field.proofs.InWords.{byte_zero, byte-sum, byte-alone, each_byte, entry-low, entry-high, entry_small}

-- ---- all sixteen as a list

pub list_length : (x : Sixteen) → length (list_of x) ≡ 16
unfolding list_of
list_length x = length-listed (entry x) 16 0

pub list_at : (x : Sixteen) (k : ℕ) → k < 16 → get_or (list_of x) k 0 ≡ entry x k
unfolding list_of
list_at x k h = get_or-listed_0 (entry x) 16 k 0 h

pub list-byte : (x : Sixteen) (k : ℕ) → get_or (list_of x) k 0 < 256
list-byte x k =
    ⊎_elim (λ (h : k < 16). rw (list_at x k h) (entry_small x k)) (λ (h : 16 ≤ k). rw (beyond (list_of x) k (omega (arith, list_length x))) (omega arith)) (cases_lt k 16)

pub list_is : (l : List ℕ) (x : Sixteen) → length l ≡ 16 → ((k : ℕ) → k < 16 → get_or l k 0 ≡ entry x k) → l ≡ list_of x
list_is l x long e =
    ext_get_or 0 l (list_of x) (long ∙ sym (list_length x)) (λ i b. let k : i < 16 = subst (λ (n : ℕ). i < n) long b in e i k ∙ sym (list_at x i k))

-- ---- entry by entry

-- an entry by the word that it stands in
pub entry_either : (x : Sixteen) (v : ℕ) (k : ℕ) → (k < 8 → byte_at x.low k ≡ v) → (8 ≤ k → byte_at x.high (k - 8) ≡ v) → entry x k ≡ v
entry_either x v k low high = ⊎_elim (λ (h : k < 8). entry-low x k h ∙ low h) (λ (h : 8 ≤ k). entry-high x k h ∙ high h) (cases_lt k 8)

pub entry-sum : (a b c d k : ℕ)
    → entry (record { low = bit_xor a b; high = bit_xor c d }) k ≡ sum (entry (record { low = a; high = c }) k) (entry (record { low = b; high = d }) k)
unfolding entry
entry-sum a b c d k = at (ltb k 8)
  where
    at : (t : Bool) → cond t (byte_at (bit_xor a b) k) (byte_at (bit_xor c d) (k - 8)) ≡ sum (cond t (byte_at a k) (byte_at c (k - 8))) (cond t (byte_at b k) (byte_at d (k - 8)))
    at true = byte-sum a b k
    at false = byte-sum c d (k - 8)

pub entry_each : (y k : ℕ) → y < 256 → k < 16 → entry (record { low = y * 0x0101010101010101; high = y * 0x0101010101010101 }) k ≡ y
entry_each y k fit h = entry_either (record { low = y * 0x0101010101010101; high = y * 0x0101010101010101 }) y k (λ l. each_byte y k fit l) (λ g. each_byte y (k - 8) fit (omega arith))

-- ---- a single 1

-- the byte j of eight is 1, computed for each byte
unit_test : (j k : ℕ) → j < 8 → k < 8 → byte_at (1 * 2 ^ (8 * j) % 2 ^ 64) k ≡ cond (eqb j k) 1 0
unfolding byte_at
unit_test j k h l =
    let m : ℕ = 8 * j + k in
    let p : m / 8 ≡ j = omega arith in
    let q : m % 8 ≡ k = omega arith in
    subst (λ (i : ℕ). byte_at (1 * 2 ^ (8 * i) % 2 ^ 64) k ≡ cond (eqb i k) 1 0) p
    (subst (λ (i : ℕ). byte_at (1 * 2 ^ (8 * (m / 8)) % 2 ^ 64) i ≡ cond (eqb (m / 8) i) 1 0) q
    (eqb→eq _ _ (below (λ n. eqb (byte_at (1 * 2 ^ (8 * (n / 8)) % 2 ^ 64) (n % 8)) (cond (eqb (n / 8) (n % 8)) 1 0)) 64 tt m (omega arith))))

-- ---- one down

byte_down : (w k : ℕ) → byte_at (w / 2 ^ 8) k ≡ byte_at w (suc k)
unfolding byte_at
byte_down w k =
    let e : 8 + k * 8 ≡ suc k * 8 = omega arith in
    ap (λ (z : ℕ). z % 256) (div-div-eq-div-mul w (2 ^ 8) (2 ^ (k * 8)) ∙ ap (λ (n : ℕ). w / n) (sym (pow-add 2 8 (k * 8))) ∙ ap (λ (n : ℕ). w / 2 ^ n) e)

byte-none : (w k : ℕ) → w < 2 ^ 64 → k ≡ 8 → byte_at w k ≡ 0
unfolding byte_at
byte-none w k h e = rw e (let z : w / 2 ^ (8 * 8) % 256 ≡ 0 = omega arith in z)

top_below : (w k : ℕ) → k < 7 → byte_at (w * 2 ^ 56 % 2 ^ 64) k ≡ 0
unfolding byte_at
top_below w zero h = omega arith
top_below w (suc zero) h = omega arith
top_below w (suc (suc zero)) h = omega arith
top_below w (suc (suc (suc zero))) h = omega arith
top_below w (suc (suc (suc (suc zero)))) h = omega arith
top_below w (suc (suc (suc (suc (suc zero))))) h = omega arith
top_below w (suc (suc (suc (suc (suc (suc zero)))))) h = omega arith
top_below w (suc (suc (suc (suc (suc (suc (suc k))))))) h = absurd (omega arith)

top_is : (w : ℕ) → byte_at (w * 2 ^ 56 % 2 ^ 64) 7 ≡ byte_at w 0
unfolding byte_at
top_is w = omega arith

pub entry_down : (x : Sixteen) (k : ℕ) → x.low < 2 ^ 64 → k < 15
    → entry (record { low = bit_xor (x.low / 2 ^ 8) (x.high * 2 ^ 56 % 2 ^ 64); high = x.high / 2 ^ 8 }) k ≡ entry x (suc k)
entry_down x k fit h =
    ⊎_elim
    (λ (l : k < 7).
    entry-low _ k (omega arith) ∙ byte-sum (x.low / 2 ^ 8) (x.high * 2 ^ 56 % 2 ^ 64) k ∙ ap₂ sum (byte_down x.low k) (top_below x.high k l) ∙ sum_zero (byte_at x.low (suc k))
    ∙ sym (entry-low x (suc k) (omega arith)))
    (λ (l : 7 ≤ k).
    ⊎_elim
    (λ (m : k < 8).
    let e : k ≡ 7 = omega arith in
    entry-low _ k m ∙ byte-sum (x.low / 2 ^ 8) (x.high * 2 ^ 56 % 2 ^ 64) k
    ∙ ap₂ sum (byte_down x.low k ∙ byte-none x.low (suc k) fit (ap suc e)) (ap (byte_at (x.high * 2 ^ 56 % 2 ^ 64)) e ∙ top_is x.high)
    ∙ zero_sum (byte_at x.high 0)
    ∙ ap (byte_at x.high) (let z : 0 ≡ suc k - 8 = omega arith in z)
    ∙ sym (entry-high x (suc k) (omega arith)))
    (λ (m : 8 ≤ k).
    entry-high _ k m ∙ byte_down x.high (k - 8) ∙ ap (byte_at x.high) (let z : suc (k - 8) ≡ suc k - 8 = omega arith in z) ∙ sym (entry-high x (suc k) (omega arith)))
    (cases_lt k 8))
    (cases_lt k 7)

-- a word again
pub down_word : (a b : ℕ) → a < 2 ^ 64 → bit_xor (a / 2 ^ 8) (b * 2 ^ 56 % 2 ^ 64) < 2 ^ 64
down_word a b h = xor_lt 64 (a / 2 ^ 8) (b * 2 ^ 56 % 2 ^ 64) (omega arith) (omega arith)

-- the last is 0
pub entry_gone : (x : Sixteen) → x.high < 2 ^ 64 → entry (record { low = bit_xor (x.low / 2 ^ 8) (x.high * 2 ^ 56 % 2 ^ 64); high = x.high / 2 ^ 8 }) 15 ≡ 0
entry_gone x fit = entry-high _ 15 (omega arith) ∙ byte_down x.high 7 ∙ byte-none x.high 8 fit refl

pub entry_unit_low : (j k : ℕ) → j < 8 → k < 16 → entry (record { low = 1 * 2 ^ (8 * j) % 2 ^ 64; high = 0 }) k ≡ cond (eqb j k) 1 0
entry_unit_low j k h l =
    entry_either (record { low = 1 * 2 ^ (8 * j) % 2 ^ 64; high = 0 }) (cond (eqb j k) 1 0) k (λ b. unit_test j k h b)
    (λ b. byte_zero (k - 8) ∙ ap (λ (t : Bool). cond t 1 0) (sym (ne_eqb j k (λ e. omega arith))))

pub entry_unit_high : (j k : ℕ) → 8 ≤ j → j < 16 → k < 16 → entry (record { low = 0; high = 1 * 2 ^ (8 * (j - 8)) % 2 ^ 64 }) k ≡ cond (eqb j k) 1 0
entry_unit_high j k h g l =
    entry_either (record { low = 0; high = 1 * 2 ^ (8 * (j - 8)) % 2 ^ 64 }) (cond (eqb j k) 1 0) k
    (λ b. byte_zero k ∙ ap (λ (t : Bool). cond t 1 0) (sym (ne_eqb j k (λ e. omega arith))))
    (λ b. unit_test (j - 8) (k - 8) (omega arith) (omega arith) ∙ ap (λ (t : Bool). cond t 1 0) (same b))
  where
    same : 8 ≤ k → eqb (j - 8) (k - 8) ≡ eqb j k
    same b =
        ⊎_elim (λ (e : j ≡ k). eq-eqb (j - 8) (k - 8) (omega arith) ∙ sym (eq-eqb j k e)) (λ (n : j ≡ k → ⊥). ne_eqb (j - 8) (k - 8) (λ e. n (omega arith)) ∙ sym (ne_eqb j k n))
        (cases_eq j k)

-- ---- a byte more at the low end of a word

pub up_zero : (w : ℕ) → byte_at (w * 2 ^ 8 % 2 ^ 64) 0 ≡ 0
unfolding byte_at
up_zero w = omega arith

pub up_next : (w k : ℕ) → k < 7 → byte_at (w * 2 ^ 8 % 2 ^ 64) (suc k) ≡ byte_at w k
unfolding byte_at
up_next w zero h = omega arith
up_next w (suc zero) h = omega arith
up_next w (suc (suc zero)) h = omega arith
up_next w (suc (suc (suc zero))) h = omega arith
up_next w (suc (suc (suc (suc zero)))) h = omega arith
up_next w (suc (suc (suc (suc (suc zero))))) h = omega arith
up_next w (suc (suc (suc (suc (suc (suc zero)))))) h = omega arith
up_next w (suc (suc (suc (suc (suc (suc (suc k))))))) h = absurd (omega arith)

-- the top byte, which a shift takes out
pub up_top : (w : ℕ) → byte_at (w / 2 ^ 56) 0 ≡ byte_at w 7
unfolding byte_at
up_top w = omega arith

byte-behind : (b k : ℕ) → b < 256 → byte_at b (suc k) ≡ 0
byte-behind b k h = sym (byte_down b k) ∙ ap (λ (z : ℕ). byte_at z k) (let e : b / 2 ^ 8 ≡ 0 = omega arith in e) ∙ byte_zero k

pub pushed_first : (w b : ℕ) → b < 256 → byte_at (bit_xor (w * 2 ^ 8 % 2 ^ 64) b) 0 ≡ b
pushed_first w b h = byte-sum (w * 2 ^ 8 % 2 ^ 64) b 0 ∙ ap₂ sum (up_zero w) (byte-alone b h) ∙ zero_sum b

pub pushed_next : (w b k : ℕ) → b < 256 → k < 7 → byte_at (bit_xor (w * 2 ^ 8 % 2 ^ 64) b) (suc k) ≡ byte_at w k
pushed_next w b k h l = byte-sum (w * 2 ^ 8 % 2 ^ 64) b (suc k) ∙ ap₂ sum (up_next w k l) (byte-behind b k h) ∙ sum_zero (byte_at w k)

-- The syndromes bit by bit: the value of a polynomial is a sum of products over its coefficients, and a product is Horner's rule over the bits of one factor; so each turn doubles all
-- that has come, and adds the powers of the coefficients in which the next bit is 1.
-- Assumes nothing.
use mathlib.Core.Path.{◌≡◌, refl, sym, ap, ap₂, ◌∙◌}
use mathlib.Core.Logic.{⊎_elim}
use mathlib.Core.List.{List, [], ◌∷◌}
use Prim.Native.Nat.{ℕ, zero, suc, ◌+◌, ◌-◌, ◌*◌, ◌/◌, ◌%◌, ◌^◌, ◌≤◌, ◌<◌}
use native.Mathlib.Nat.{mul_comm, div-one, div-div-eq-div-mul, mod-eq_of_lt, mod-lt, pow-suc, zero-lt-suc}
use native.Mathlib.Numerals.{add-one}
use native.Mathlib.Omega.{arith}
use lib.Bits.{bit_xor, bit_and, and_le_r, xor_lt}
use lib.ListN.{length, get_or}
use Rattle.std.proofs.lemmas.Bool.{cases_lt}
use Rattle.ground.specs.Bits.{sum, keep}
use Rattle.ground.proofs.Sums.{sum_assoc, sum_comm, sum_zero}
use Rattle.words.specs.Words.{byte_at}
use Rattle.field.specs.Field.{product, power}
use Rattle.field.specs.declared.Sixteen.{Sixteen}
use Rattle.field.specs.Words.{entry, InWords, Doubled}
use Rattle.field.proofs.Horner.{double, double_sum, double_zero, horner}
use Rattle.field.proofs.Bridge.{product_horner}
use Rattle.field.proofs.InWords.{byte_zero, byte-sum, masked, byte-keep, entry-low, entry-high, entry_small}
use Rattle.field.proofs.Laws.{power-byte, expo-power}
use Rattle.field.proofs.Product.{product-two}
use Rattle.code.specs.Value.{value}
use Rattle.code.proofs.Values.{value_nil, value_cons}
use Rattle.code.specs.Total.{total}
use Rattle.code.proofs.Totals.{total_zero, total_ext, total_first, total-sum}
use Rattle.terms.specs.Terms.{Syndromes}
use Rattle.terms.specs.InnerPoints.{Points, added, turned}

-- ---- the value as a sum of products

pub value_terms : (w : List ℕ) (j : ℕ) → value w (power j) ≡ total (length w) (λ m. product (get_or w m 0) (power ((length w - suc m) * j)))
unfolding total
value_terms [] j = value_nil (power j)
value_terms (c ∷ u) j =
    let n : ℕ = length u in
    let f : ℕ → ℕ = λ m. product (get_or (c ∷ u) m 0) (power ((suc n - suc m) * j)) in
    value_cons c u (power j)
    ∙ ap₂ sum (ap (product c) (expo-power j n ∙ ap power (mul_comm j n) ∙ ap (λ (x : ℕ). power (x * j)) (first n)))
    (value_terms u j ∙ total_ext n (λ m. product (get_or u m 0) (power ((n - suc m) * j))) (λ m. f (suc m)) (λ m h. ap (λ (x : ℕ). product (get_or u m 0) (power (x * j))) (next n m)))
    ∙ sym (total_first n f)
  where
    first : (n : ℕ) → n ≡ suc n - 1
    first n = omega arith

    next : (n m : ℕ) → n - suc m ≡ suc n - suc (suc m)
    next n m = omega arith

-- ---- and each product by the bits of the coefficient

-- what has come of syndrome j by the bits from bit i on
unfoldable pub come_by : List ℕ → ℕ → ℕ → ℕ
come_by rest i j = total 16 (λ m. horner (8 - i) (get_or rest m 0 / 2 ^ i) (power ((15 - m) * j)))

total_double : (n : ℕ) (f : ℕ → ℕ) → total n (λ m. double (f m)) ≡ double (total n f)
unfolding total
total_double zero f = sym double_zero
total_double (suc n) f = ap (λ (x : ℕ). sum x (double (f n))) (total_double n f) ∙ sym (double_sum (total n f) (f n))

pub come_none : (rest : List ℕ) (j : ℕ) → come_by rest 8 j ≡ 0
unfolding come_by horner
come_none rest j = total_zero 16 (λ m. horner 0 (get_or rest m 0 / 2 ^ 8) (power ((15 - m) * j))) (λ m h. refl)

-- one bit more
bit-more : (i a b : ℕ) → i < 8 → horner (8 - i) (a / 2 ^ i) b ≡ sum (double (horner (8 - suc i) (a / 2 ^ suc i) b)) (keep (a / 2 ^ i % 2) b)
unfolding horner
bit-more i a b h =
    let e : 8 - i ≡ suc (8 - suc i) = omega arith in
    ap (λ (n : ℕ). horner n (a / 2 ^ i) b) e
    ∙ sum_comm (keep (a / 2 ^ i % 2) b) (double (horner (8 - suc i) (a / 2 ^ i / 2) b))
    ∙ ap (λ (x : ℕ). sum (double (horner (8 - suc i) x b)) (keep (a / 2 ^ i % 2) b)) (div-div-eq-div-mul a (2 ^ i) 2 ∙ ap (λ (n : ℕ). a / n) (sym (pow-suc 2 i)))

come_more : (rest : List ℕ) (i j : ℕ) → i < 8 → sum (double (come_by rest (suc i) j)) (added rest i 16 j) ≡ come_by rest i j
unfolding come_by added
come_more rest i j h =
    let f : ℕ → ℕ = λ m. horner (8 - suc i) (get_or rest m 0 / 2 ^ suc i) (power ((15 - m) * j)) in
    let g : ℕ → ℕ = λ m. keep (get_or rest m 0 / 2 ^ i % 2) (power ((15 - m) * j)) in
    ap (λ (x : ℕ). sum x (total 16 g)) (sym (total_double 16 f))
    ∙ sym (total-sum 16 (λ m. double (f m)) g)
    ∙ total_ext 16 (λ m. sum (double (f m)) (g m)) (λ m. horner (8 - i) (get_or rest m 0 / 2 ^ i) (power ((15 - m) * j))) (λ m b. sym (bit-more i (get_or rest m 0) (power ((15 - m) * j)) h))

come_all : (rest : List ℕ) (j : ℕ) → length rest ≡ 16 → ((m : ℕ) → get_or rest m 0 < 256) → come_by rest 0 j ≡ value rest (power j)
unfolding come_by
come_all rest j long bytes =
    total_ext 16 (λ m. horner 8 (get_or rest m 0 / 1) (power ((15 - m) * j))) (λ m. product (get_or rest m 0) (power ((15 - m) * j)))
    (λ m h. ap (λ (x : ℕ). horner 8 x (power ((15 - m) * j))) (div-one (get_or rest m 0)) ∙ sym (product_horner (get_or rest m 0) (power ((15 - m) * j))
    ∙ ap₂ (horner 8) (mod-eq_of_lt (bytes m)) (mod-eq_of_lt (power-byte ((15 - m) * j)))))
    ∙ total_ext 16 (λ m. product (get_or rest m 0) (power ((15 - m) * j))) (λ m. product (get_or rest m 0) (power ((16 - suc m) * j))) (λ m h. ap (λ (x : ℕ). product (get_or rest m 0) (power (x * j))) (same m))
    ∙ sym (value_terms rest j ∙ ap (λ (n : ℕ). total n (λ m. product (get_or rest m 0) (power ((n - suc m) * j)))) long)
  where
    same : (m : ℕ) → 15 - m ≡ 16 - suc m
    same m = omega arith

-- ---- the turns over the bits, from bit i on

pub record Coming (rest : List ℕ) (s : Sixteen) (i : ℕ) : Type 0 where
  pub words : InWords s
  pub come : (j : ℕ) → j < 16 → entry s j ≡ come_by rest i j

pub coming_start : (rest : List ℕ) → Coming rest (record { low = 0; high = 0 }) 8
coming_start rest =
    record {
      words = record { low = omega arith; high = omega arith };
      come = λ j h. nothing j ∙ sym (come_none rest j);
    }
  where
    nothing : (j : ℕ) → entry (record { low = 0; high = 0 }) j ≡ 0
    nothing j = ⊎_elim (λ (h : j < 8). entry-low _ j h ∙ byte_zero j) (λ (h : 8 ≤ j). entry-high _ j h ∙ byte_zero (j - 8)) (cases_lt j 8)

pub coming_more : {rest : List ℕ} {s : Sixteen} {i : ℕ} → Coming rest s i → 0 < i → i ≤ 8 → (r : Sixteen) → InWords r → ((j : ℕ) → j < 16 → entry r j ≡ turned rest (i - 1) (entry s j) j)
    → Coming rest r (i - 1)
unfolding turned
coming_more {rest} {s} {i} was some within r words next =
    let e : suc (i - 1) ≡ i = omega arith in
    record {
      words = words;
      come = λ j h.
          next j h
          ∙ ap (λ (x : ℕ). sum x (added rest (i - 1) 16 j)) (product-two (entry s j) (entry_small s j) ∙ ap double (was.come j h ∙ ap (λ (n : ℕ). come_by rest n j) (sym e)))
          ∙ come_more rest (i - 1) j (omega arith);
    }

pub coming_end : {rest : List ℕ} {s : Sixteen} {i : ℕ} → Coming rest s i → i ≤ 0 → length rest ≡ 16 → ((m : ℕ) → get_or rest m 0 < 256) → Syndromes rest s
coming_end {rest} {s} {i} was none long bytes =
    let e : i ≡ 0 = omega arith in
    record { words = was.words; entry = λ j h. was.come j h ∙ ap (λ (n : ℕ). come_by rest n j) e ∙ come_all rest j long bytes }

-- ---- the turns over the bytes, of which m are added

word_kept : (e w k : ℕ) → e < 2 → w < 2 ^ 64 → byte_at (bit_and (e * 0xFFFFFFFFFFFFFFFF) w) k ≡ keep e (byte_at w k)
word_kept e w k h fit = ap (λ (z : ℕ). byte_at z k) (masked 64 e w h fit) ∙ byte-keep e w k

pub record Adding (rest : List ℕ) (s : Sixteen) (i : ℕ) (low high m : ℕ) : Type 0 where
  pub words : InWords (record { low = low; high = high })
  pub sums : (j : ℕ) → j < 16 → entry (record { low = low; high = high }) j ≡ sum (product 2 (entry s j)) (added rest i m j)

adding_sum : (a b c d e j : ℕ) → e < 2 → c < 2 ^ 64 → d < 2 ^ 64
    → entry (record { low = bit_xor a (bit_and (e * 0xFFFFFFFFFFFFFFFF) c); high = bit_xor b (bit_and (e * 0xFFFFFFFFFFFFFFFF) d) }) j
    ≡ sum (entry (record { low = a; high = b }) j) (keep e (entry (record { low = c; high = d }) j))
adding_sum a b c d e j small fc fd =
    let all : ℕ = e * 0xFFFFFFFFFFFFFFFF in
    ⊎_elim
    (λ (h : j < 8).
    entry-low _ j h ∙ byte-sum a (bit_and all c) j ∙ ap₂ sum (sym (entry-low (record { low = a; high = b }) j h)) (word_kept e c j small fc ∙ ap (keep e) (sym (entry-low (record { low = c; high = d }) j h))))
    (λ (h : 8 ≤ j).
    entry-high _ j h ∙ byte-sum b (bit_and all d) (j - 8)
    ∙ ap₂ sum (sym (entry-high (record { low = a; high = b }) j h)) (word_kept e d (j - 8) small fd ∙ ap (keep e) (sym (entry-high (record { low = c; high = d }) j h))))
    (cases_lt j 8)

pub adding_start : (rest : List ℕ) (s : Sixteen) (i : ℕ) {low high : ℕ} → Doubled s.low low → Doubled s.high high → Adding rest s i low high 0
unfolding added total
adding_start rest s i {low} {high} l h =
    record {
      words = record { low = l.word; high = h.word };
      sums = λ j b. doubled j b ∙ sym (sum_zero (product 2 (entry s j)));
    }
  where
    doubled : (j : ℕ) → j < 16 → entry (record { low = low; high = high }) j ≡ product 2 (entry s j)
    doubled j b =
        ⊎_elim (λ (g : j < 8). entry-low _ j g ∙ l.entry j g ∙ ap (product 2) (sym (entry-low s j g)))
        (λ (g : 8 ≤ j). entry-high _ j g ∙ h.entry (j - 8) (omega arith) ∙ ap (product 2) (sym (entry-high s j g))) (cases_lt j 8)

pub adding_more : {rest : List ℕ} {s : Sixteen} {i low high m : ℕ} → Adding rest s i low high m → m < 16 → {t : List ℕ} → Points t → (b : ℕ) → b ≡ get_or rest m 0
    → Adding rest s i (bit_xor low (bit_and (b / 2 ^ i % 2 * 0xFFFFFFFFFFFFFFFF) (get_or t (2 * m) 0))) (bit_xor high (bit_and (b / 2 ^ i % 2 * 0xFFFFFFFFFFFFFFFF) (get_or t (2 * m + 1) 0))) (m + 1)
unfolding added total
adding_more {rest} {s} {i} {low} {high} {m} was more {t} points b q =
    let e : ℕ = b / 2 ^ i % 2 in
    let c : ℕ = get_or t (2 * m) 0 in
    let d : ℕ = get_or t (2 * m + 1) 0 in
    let small : e < 2 = mod-lt (b / 2 ^ i) (zero-lt-suc 1) in
    record {
      words =
          record {
            low = xor_lt 64 low (bit_and (e * 0xFFFFFFFFFFFFFFFF) c) was.words.low (le_lt_trans (and_le_r (e * 0xFFFFFFFFFFFFFFFF) c) (points.word (2 * m)));
            high = xor_lt 64 high (bit_and (e * 0xFFFFFFFFFFFFFFFF) d) was.words.high (le_lt_trans (and_le_r (e * 0xFFFFFFFFFFFFFFFF) d) (points.word (2 * m + 1)));
          };
      sums = λ j h.
          adding_sum low high c d e j small (points.word (2 * m)) (points.word (2 * m + 1))
          ∙ ap₂ sum (was.sums j h) (ap₂ (λ (x y : ℕ). keep (x / 2 ^ i % 2) y) q (points.entry m j more h))
          ∙ sum_assoc (product 2 (entry s j)) (total m (λ n. keep (get_or rest n 0 / 2 ^ i % 2) (power ((15 - n) * j)))) (keep (get_or rest m 0 / 2 ^ i % 2) (power ((15 - m) * j)))
          ∙ ap (λ (n : ℕ). sum (product 2 (entry s j)) (total n (λ n. keep (get_or rest n 0 / 2 ^ i % 2) (power ((15 - n) * j))))) (sym (add-one m));
    }
  where
    le_lt_trans : {x y z : ℕ} → x ≤ y → y < z → x < z
    le_lt_trans p r = omega arith

pub adding_end : {rest : List ℕ} {s : Sixteen} {i low high m : ℕ} → Adding rest s i low high m → m ≡ 16
    → InWords (record { low = low; high = high }) × ((j : ℕ) → j < 16 → entry (record { low = low; high = high }) j ≡ turned rest i (entry s j) j)
unfolding turned
adding_end {rest} {s} {i} {low} {high} {m} was e =
    (was.words, λ j b. was.sums j b ∙ ap (λ (n : ℕ). sum (product 2 (entry s j)) (added rest i n j)) e)

-- The table is made by doubling: the multiples of a word's bytes, twice as many a step, and with them the words of one coefficient after the other.
-- Assumes nothing.
use mathlib.Core.Path.{◌≡◌, refl, sym, ap, ap₂, ◌∙◌}
use mathlib.Core.Logic.{⊎_elim}
use mathlib.Core.List.{List}
use Prim.Native.Nat.{ℕ, ◌+◌, ◌-◌, ◌*◌, ◌^◌, ◌≤◌, ◌<◌}
use native.Mathlib.Nat.{not-suc-le-zero}
use native.Mathlib.Omega.{arith}
use lib.Bits.{bit_xor, xor_shifted}
use lib.Dec.{eqb, eqb→eq}
use lib.ListN.{length, get_or, set, length-set}
use lib.Seq.{get_or-set_same, get_or-set_other}
use Rattle.std.proofs.lemmas.Bool.{cases_lt}
use Rattle.ground.specs.Bits.{sum}
use Rattle.ground.proofs.Numbers.{below_suc}
use Rattle.ground.proofs.Sums.{sum_comm}
use Rattle.ground.proofs.Sweep.{below}
use Rattle.field.specs.Field.{carryless, reduce, product, power}
use Rattle.field.specs.Words.{Doubled}
use Rattle.field.proofs.Laws.{product-sum-left, zero_product, product_one, product_assoc}
use Rattle.field.proofs.InWords.{byte_zero, byte-sum, byte_small}
use Rattle.words.specs.Words.{byte_at}
use Rattle.roots.specs.InnerWords.{Added, Multiples, Words}

-- ---- products with half bytes, computed

twice : (m : ℕ) → m < 16 → product 2 m ≡ 2 * m
unfolding product reduce carryless sum
twice m h = eqb→eq (product 2 m) (2 * m) (below (λ (n : ℕ). eqb (product 2 n) (2 * n)) 16 tt m h)

sixteen : (h : ℕ) → h < 16 → product h 16 ≡ h * 16
unfolding product reduce carryless sum
sixteen h l = eqb→eq (product h 16) (h * 16) (below (λ (n : ℕ). eqb (product n 16) (n * 16)) 16 tt h l)

-- a power of two and what is below it
joined : (e n j : ℕ) → n ≡ 2 ^ e → j < n → sum j n ≡ n + j
unfolding sum
joined e n j is h =
    let p : 1 * 2 ^ e ≡ n = omega arith in
    sum_comm j n ∙ ap (λ (x : ℕ). bit_xor x j) (sym p) ∙ xor_shifted 1 e j (omega arith) ∙ ap (λ (x : ℕ). x + j) p

even_product : (m x : ℕ) → m < 16 → product 2 (product m x) ≡ product (2 * m) x
even_product m x h = sym (product_assoc 2 m x) ∙ ap (λ (y : ℕ). product y x) (twice m h)

-- ---- n words once more, with a word added

pub added_none : (n at w : ℕ) (s : List ℕ) → length s ≡ 256 → Added 0 n at w s s
added_none n at w s size = record { room = size; entry = λ i l. absurd (not-suc-le-zero l); front = λ i l. refl }

pub added_more : {j n at w : ℕ} {s t : List ℕ} → Added j n at w s t → j < n → at + 2 * n ≤ 256
    → Added (j + 1) n at w s (set t (at + n + j) (bit_xor (get_or t (at + j) 0) w))
added_more {j} {n} {at} {w} {s} {t} was h room =
    let size : length t ≡ 256 = was.room in
    let v : ℕ = bit_xor (get_or t (at + j) 0) w in
    record {
      room = length-set t (at + n + j) v ∙ size;
      entry = λ i l. ⊎_elim
          (λ (q : i ≡ j). rw q (get_or-set_same t (at + n + j) v 0 (omega arith) ∙ ap (λ (z : ℕ). bit_xor z w) (was.front (at + j) (omega arith))))
          (λ (q : i < j). get_or-set_other t (at + n + j) (at + n + i) v 0 (λ z. omega arith) ∙ was.entry i q)
          (below_suc (omega arith));
      front = λ i l. get_or-set_other t (at + n + j) i v 0 (λ z. omega arith) ∙ was.front i l;
    }

pub added-all : {j n at w : ℕ} {s t : List ℕ} → Added j n at w s t → n ≤ j → Added n n at w s t
added-all was h = record { room = was.room; entry = λ i l. was.entry i (omega arith); front = was.front }

-- ---- the multiples of the bytes of a word

first-multiple : (t : List ℕ) (at w : ℕ) → length t ≡ 256 → at < 256 → Multiples 1 at w t (set t at 0)
first-multiple t at w size room =
    record {
      room = length-set t at 0 ∙ size;
      entry = λ h k l g.
          let z : h ≡ 0 = omega arith in
          let p : at + h ≡ at = omega arith in
          ap (λ (i : ℕ). byte_at (get_or (set t at 0) i 0) k) p
          ∙ ap (λ (x : ℕ). byte_at x k) (get_or-set_same t at 0 0 (omega arith))
          ∙ byte_zero k
          ∙ sym (ap (λ (i : ℕ). product i (byte_at w k)) z ∙ zero_product (byte_at w k));
      front = λ j l. get_or-set_other t at j 0 0 (λ z. omega arith);
    }

-- twice as many: those below n, and with n times the word added
twice_many : {n at w v : ℕ} {s t u : List ℕ} (e : ℕ) → n ≡ 2 ^ e → Multiples n at w s t → ((k : ℕ) → k < 8 → byte_at v k ≡ product n (byte_at w k))
    → Added n n at v t u → Multiples (2 * n) at w s u
twice_many {n} {at} {w} {v} {s} {t} {u} e is was value more =
    record {
      room = more.room;
      entry = λ h k l g. ⊎_elim
          (λ (q : h < n). ap (λ (z : ℕ). byte_at z k) (more.front (at + h) (omega arith)) ∙ was.entry h k q g)
          (λ (q : n ≤ h).
          let j : ℕ = h - n in
          let b : j < n = omega arith in
          let p : at + h ≡ at + n + j = omega arith in
          let r : n + j ≡ h = omega arith in
          ap (λ (i : ℕ). byte_at (get_or u i 0) k) p
          ∙ ap (λ (z : ℕ). byte_at z k) (more.entry j b)
          ∙ byte-sum (get_or t (at + j) 0) v k
          ∙ ap₂ sum (was.entry j k b g) (value k g)
          ∙ sym (product-sum-left j n (byte_at w k))
          ∙ ap (λ (i : ℕ). product i (byte_at w k)) (joined e n j is b ∙ r))
          (cases_lt h n);
      front = λ j l. more.front j (omega arith) ∙ was.front j l;
    }

-- 0, and four blocks
pub multiples_all : (t a b c d : List ℕ) (at w x y z : ℕ) → length t ≡ 256 → at < 256 → Added 1 1 at w (set t at 0) a → Doubled w x → Added 2 2 at x a b
    → Doubled x y → Added 4 4 at y b c → Doubled y z → Added 8 8 at z c d → Multiples 16 at w t d
multiples_all t a b c d at w x y z size room first double second fourfold third eightfold fourth =
    let two : (k : ℕ) → k < 8 → byte_at x k ≡ product 2 (byte_at w k) = double.entry in
    let four : (k : ℕ) → k < 8 → byte_at y k ≡ product 4 (byte_at w k) =
    λ k g. fourfold.entry k g ∙ ap (product 2) (two k g) ∙ even_product 2 (byte_at w k) (omega arith) in
    let eight : (k : ℕ) → k < 8 → byte_at z k ≡ product 8 (byte_at w k) =
    λ k g. eightfold.entry k g ∙ ap (product 2) (four k g) ∙ even_product 4 (byte_at w k) (omega arith) in
    twice_many 3 refl
    (twice_many 2 refl
    (twice_many 1 refl
    (twice_many 0 refl (first-multiple t at w size room) (λ k g. sym (product_one (byte_at w k) (byte_small w k))) first)
    two second)
    four third)
    eight fourth

-- ---- the words of the coefficients

pub words-none : (t : List ℕ) → length t ≡ 256 → Words 0 t
words-none t size =
    record { room = size; low = λ i h k l b g. absurd (not-suc-le-zero l); high = λ i h k l b g. absurd (not-suc-le-zero l) }

pub words_fewer : {m n : ℕ} {t : List ℕ} → Words n t → m ≤ n → Words m t
words_fewer was h =
    record { room = was.room; low = λ i x k l b g. was.low i x k (omega arith) b g; high = λ i x k l b g. was.high i x k (omega arith) b g }

-- the sixteenfold of y, times a half byte
high_product : (h y : ℕ) → h < 16 → product h (product 2 (product 8 y)) ≡ product (h * 16) y
high_product h y l =
    ap (product h) (even_product 8 y (omega arith)) ∙ sym (product_assoc h 16 y) ∙ ap (λ (x : ℕ). product x y) (sixteen h l)

-- those of one coefficient more: word j, of the half byte 8, is doubled
pub words_more : {i : ℕ} {t u v : List ℕ} → Words i t → (p q j : ℕ) → ((k : ℕ) → k < 8 → byte_at p k ≡ power ((i + 1) * (k + 1)))
    → Multiples 16 (32 * i) p t u → j ≡ 32 * i + 8 → Doubled (get_or u j 0) q → Multiples 16 (32 * i + 16) q u v → Words (i + 1) v
words_more {i} {t} {u} {v} was p q j powers lower is double upper =
    record {
      room = upper.room;
      low = λ m h k l b g. ⊎_elim
          (λ (e : m ≡ i). rw e
          (ap (λ (z : ℕ). byte_at z k) (upper.front (32 * i + h) (omega arith)) ∙ lower.entry h k b g ∙ ap (product h) (powers k g)))
          (λ (e : m < i). kept (32 * m + h) k (omega arith) ∙ was.low m h k e b g)
          (below_suc (omega arith));
      high = λ m h k l b g. ⊎_elim
          (λ (e : m ≡ i). rw e
          (upper.entry h k b g
          ∙ ap (product h) (double.entry k g ∙ ap (product 2) (eightfold k g))
          ∙ high_product h (power ((i + 1) * (k + 1))) b))
          (λ (e : m < i). kept (32 * m + 16 + h) k (omega arith) ∙ was.high m h k e b g)
          (below_suc (omega arith));
    }
  where
    kept : (m k : ℕ) → m < 32 * i → byte_at (get_or v m 0) k ≡ byte_at (get_or t m 0) k
    kept m k h = ap (λ (z : ℕ). byte_at z k) (upper.front m (omega arith) ∙ lower.front m h)

    eightfold : (k : ℕ) → k < 8 → byte_at (get_or u j 0) k ≡ product 8 (power ((i + 1) * (k + 1)))
    eightfold k g = ap (λ (m : ℕ). byte_at (get_or u m 0) k) is ∙ lower.entry 8 k (omega arith) g ∙ ap (product 8) (powers k g)

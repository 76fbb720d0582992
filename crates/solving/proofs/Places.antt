-- The locators of eight places in a word, put there one after the other, the last one first.
-- Assumes nothing.
use mathlib.Core.Path.{◌≡◌, sym, ap, ◌∙◌}
use mathlib.Core.Logic.{⊎_elim}
use mathlib.Core.List.{List}
use Prim.Native.Nat.{ℕ, suc, ◌+◌, ◌-◌, ◌*◌, ◌%◌, ◌^◌, ◌≤◌, ◌<◌}
use native.Mathlib.Nat.{eq-or-lt_of_le, zero-add}
use native.Mathlib.Omega.{arith}
use lib.Bits.{bit_xor}
use lib.ListN.{get_or}
use Rattle.std.proofs.lemmas.Bool.{cases_eq}
use Rattle.words.specs.Words.{byte_at}
use Rattle.field.specs.Field.{power}
use Rattle.field.proofs.Laws.{power-byte}
use Rattle.errata.proofs.Entries.{entry_either, pushed_first, pushed_next}
use Rattle.errata.specs.InnerValues.{Located}

-- those of place m and behind stand in w
pub record Locating (at : List ℕ) (from w m : ℕ) : Type 0 where
  pub within : m ≤ 8
  pub put : (k : ℕ) → m ≤ k → k < 8 → byte_at w (k - m) ≡ power (get_or at (from + k) 0)

pub locating_start : (at : List ℕ) (from w : ℕ) → Locating at from w 8
locating_start at from w = record { within = omega arith; put = λ k h l. absurd (omega arith) }

pub locating_more : {at : List ℕ} {from w m : ℕ} → Locating at from w m → 0 < m → (b : ℕ) → b ≡ power (get_or at (from + (m - 1)) 0)
    → Locating at from (bit_xor (w * 2 ^ 8 % 2 ^ 64) b) (m - 1)
locating_more {at} {from} {w} {m} was some b e =
    let fit : b < 256 = rw e (power-byte (get_or at (from + (m - 1)) 0)) in
    record {
      within = omega (arith, was.within);
      put = λ k h l. ⊎_elim
          (λ (q : k ≡ m - 1).
          let z : k - (m - 1) ≡ 0 = omega arith in
          ap (byte_at (bit_xor (w * 2 ^ 8 % 2 ^ 64) b)) z ∙ pushed_first w b fit ∙ e ∙ ap (λ (i : ℕ). power (get_or at (from + i) 0)) (sym q))
          (λ (q : k ≡ m - 1 → ⊥).
          let n : m ≤ k = behind k h q in
          let z : k - (m - 1) ≡ suc (k - m) = omega arith in
          ap (byte_at (bit_xor (w * 2 ^ 8 % 2 ^ 64) b)) z ∙ pushed_next w b (k - m) fit (omega arith) ∙ was.put k n l)
          (cases_eq k (m - 1));
    }
  where
    behind : (k : ℕ) → m - 1 ≤ k → (k ≡ m - 1 → ⊥) → m ≤ k
    behind k h q = ⊎_elim (λ (e : m - 1 ≡ k). absurd (q (sym e))) (λ (l : m - 1 < k). omega arith) (eq-or-lt_of_le h)

pub locating_end : {at : List ℕ} {from w m : ℕ} → Locating at from w m → m ≤ 0 → (k : ℕ) → k < 8 → byte_at w k ≡ power (get_or at (from + k) 0)
locating_end {at} {from} {w} {m} was h k l = let z : k ≡ k - m = omega arith in ap (byte_at w) z ∙ was.put k (omega arith) l

-- sixteen of them in two words
pub both_located : (at : List ℕ) (low high : ℕ) → ((k : ℕ) → k < 8 → byte_at low k ≡ power (get_or at (0 + k) 0)) → ((k : ℕ) → k < 8 → byte_at high k ≡ power (get_or at (8 + k) 0))
    → Located at (record { low = low; high = high })
both_located at low high first second k h =
    entry_either (record { low = low; high = high }) (power (get_or at k 0)) k
    (λ l. first k l ∙ ap (λ (i : ℕ). power (get_or at i 0)) (zero-add k))
    (λ l. second (k - 8) (omega arith) ∙ ap (λ (i : ℕ). power (get_or at i 0)) (let e : 8 + (k - 8) ≡ k = omega arith in e))

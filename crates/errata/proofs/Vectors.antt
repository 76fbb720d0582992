-- The search for the null vector in words: a vector's nine entries and its sixteen runs are bytes of two words each. What the turns do to the words, they do to the entries.
-- Assumes nothing.
use mathlib.Core.Path.{◌≡◌, refl, sym, ap, ap₂, subst, ◌∙◌}
use mathlib.Core.Logic.{◌≢◌, ⊎_elim}
use mathlib.Core.List.{List, ◌∷◌}
use Prim.Native.Nat.{ℕ, zero, suc, ◌+◌, ◌-◌, ◌*◌, ◌/◌, ◌%◌, ◌^◌, ◌≤◌, ◌<◌}
use native.Mathlib.Nat.{not-suc-le-zero}
use native.Mathlib.Numerals.{add-one}
use native.Mathlib.Omega.{arith}
use lib.Bits.{bit_xor}
use lib.ListN.{length, get_or, set, replicate, length-set, get_or-eq_default}
use lib.Seq.{ext_get_or, get_or-set_same, get_or-set_other}
use Rattle.std.proofs.lemmas.Bool.{cases_lt}
use Rattle.ground.specs.Bits.{sum}
use Rattle.ground.proofs.Sums.{zero_sum}
use Rattle.ground.proofs.Numbers.{below_suc}
use Rattle.ground.proofs.Listed.{length-listed, get_or-listed_0, zeros_at}
use Rattle.words.specs.Words.{byte_at}
use Rattle.field.specs.declared.Sixteen.{Sixteen}
use Rattle.field.specs.Field.{product}
use Rattle.field.specs.Words.{entry}
use Rattle.field.proofs.Laws.{product_zero}
use Rattle.field.proofs.InWords.{entry-low, entry-high, entry_small}
use Rattle.errata.specs.InnerValues.{list_of}
use Rattle.errata.proofs.Entries.{list_at, list-byte, up_zero, up_next, up_top, entry_down, entry_gone}
use Rattle.errata.specs.InnerNull.{Short, Blended, in_two, nine}
use Rattle.errata.proofs.Null.{Mixed, Shifted, Kept, Reducing, reducing_mixed, reducing_shifted, run_unit}

-- ---- nine entries of two words

nine-sized : (low high : ℕ) → length (nine low high) ≡ 9
unfolding nine
nine-sized low high = length-listed (entry (in_two low high)) 9 0

nine-at : (low high k : ℕ) → k < 9 → get_or (nine low high) k 0 ≡ entry (in_two low high) k
unfolding nine
nine-at low high k h = get_or-listed_0 (entry (in_two low high)) 9 k 0 h

nine-behind : (low high k : ℕ) → 9 ≤ k → get_or (nine low high) k 0 ≡ 0
nine-behind low high k h = get_or-eq_default (nine low high) 0 (omega (arith, nine-sized low high))

nine-byte : (low high k : ℕ) → k < 9 → get_or (nine low high) k 0 < 256
nine-byte low high k h = rw (nine-at low high k h) (entry_small (in_two low high) k)

-- eight bytes written from the front, and the ninth
pub nine-written : (low high : ℕ) (out : List ℕ) {k b : ℕ} → length out ≡ 9 → ((m : ℕ) → m < k → get_or out m 0 ≡ byte_at low m) → 8 ≤ k → b ≡ byte_at high 0 → set out 8 b ≡ nine low high
nine-written low high out {k} {b} long written h e =
    ext_get_or 0 (set out 8 b) (nine low high) (length-set out 8 b ∙ long ∙ sym (nine-sized low high))
    (λ m l.
    let in_nine : m < 9 = omega (arith, length-set out 8 b) in
    ⊎_elim
    (λ (is : m ≡ 8).
    subst (λ (x : ℕ). get_or (set out 8 b) x 0 ≡ get_or (nine low high) x 0) (sym is)
    (get_or-set_same out 8 b 0 (omega arith) ∙ e ∙ sym (nine-at low high 8 (omega arith) ∙ entry-high (in_two low high) 8 (omega arith))))
    (λ (lt : m < 8).
    get_or-set_other out 8 m b 0 (λ is. omega arith) ∙ written m (omega arith)
    ∙ sym (nine-at low high m in_nine ∙ entry-low (in_two low high) m lt))
    (below_suc in_nine))

-- ---- p · v + d · q

entries_blended : (p d a a' b b' r r' k : ℕ) → Blended p d a b r → Blended p d a' b' r' → k < 16
    → entry (in_two r r') k ≡ sum (product p (entry (in_two a a') k)) (product d (entry (in_two b b') k))
entries_blended p d a a' b b' r r' k low high h =
    ⊎_elim
    (λ (m : k < 8).
    entry-low (in_two r r') k m ∙ low.entry k m
    ∙ sym (ap₂ (λ (x y : ℕ). sum (product p x) (product d y)) (entry-low (in_two a a') k m) (entry-low (in_two b b') k m)))
    (λ (m : 8 ≤ k).
    entry-high (in_two r r') k m ∙ high.entry (k - 8) (omega arith)
    ∙ sym (ap₂ (λ (x y : ℕ). sum (product p x) (product d y)) (entry-high (in_two a a') k m) (entry-high (in_two b b') k m)))
    (cases_lt k 8)

nine_mixed : (p d a a' b b' r r' : ℕ) → Blended p d a b r → Blended p d a' b' r' → Mixed p d (nine a a') (nine b b') (nine r r')
nine_mixed p d a a' b b' r r' low high = record { sized = nine-sized r r'; entry = λ m. ⊎_elim (front m) (behind m) (cases_lt m 9) }
  where
    front : (m : ℕ) → m < 9 → get_or (nine r r') m 0 ≡ sum (product p (get_or (nine a a') m 0)) (product d (get_or (nine b b') m 0))
    front m h =
        nine-at r r' m h ∙ entries_blended p d a a' b b' r r' m low high (omega arith)
        ∙ sym (ap₂ (λ (x y : ℕ). sum (product p x) (product d y)) (nine-at a a' m h) (nine-at b b' m h))

    behind : (m : ℕ) → 9 ≤ m → get_or (nine r r') m 0 ≡ sum (product p (get_or (nine a a') m 0)) (product d (get_or (nine b b') m 0))
    behind m h =
        nine-behind r r' m h
        ∙ sym (ap₂ (λ (x y : ℕ). sum (product p x) (product d y)) (nine-behind a a' m h) (nine-behind b b' m h)
        ∙ ap₂ sum (product_zero p) (product_zero d) ∙ zero_sum 0)

-- ---- x · v, and its runs

nine_shifted : (low high : ℕ) → Shifted (nine low high) (nine (low * 2 ^ 8 % 2 ^ 64) (low / 2 ^ 56))
nine_shifted low high =
    let up : ℕ = low * 2 ^ 8 % 2 ^ 64 in
    let over : ℕ = low / 2 ^ 56 in
    record {
      sized = nine-sized up over;
      first = nine-at up over 0 (omega arith) ∙ entry-low (in_two up over) 0 (omega arith) ∙ up_zero low;
      next =
          λ m h. nine-at up over (suc m) (omega arith)
          ∙ ⊎_elim
          (λ (e : m ≡ 7).
          subst (λ (k : ℕ). entry (in_two up over) (suc k) ≡ byte_at low k) (sym e) (entry-high (in_two up over) 8 (omega arith) ∙ up_top low))
          (λ (b : m < 7). entry-low (in_two up over) (suc m) (omega arith) ∙ up_next low m b) (below_suc h)
          ∙ sym (nine-at low high m (omega arith) ∙ entry-low (in_two low high) m h);
    }

-- the runs one down
abbrev pub moved_down : ℕ → ℕ → Sixteen
moved_down first last = in_two (bit_xor (first / 2 ^ 8) (last * 2 ^ 56 % 2 ^ 64)) (last / 2 ^ 8)

-- ---- the first vector is 1, and its runs are the syndromes

unit : nine 1 0 ≡ 1 ∷ replicate 8 0
unfolding nine entry byte_at
unit = refl

unit_above : (m : ℕ) → 1 ≤ m → ◌≡◌ {A = ℕ} (get_or (1 ∷ replicate 8 0) m 0) 0
unit_above zero h = absurd (not-suc-le-zero h)
unit_above (suc m) h = zeros_at 8 m

pub reducing_start : (s : Sixteen) → Reducing (list_of s) 0 0 (nine 1 0) (entry s)
reducing_start s =
    let short : Short 1 (nine 1 0) = rw unit (record { sized = refl; above = unit_above }) in
    let one : ◌≡◌ {A = ℕ} (get_or (nine 1 0) 0 0) 1 = ap (λ (l : List ℕ). get_or l 0 0) unit in
    record {
      within = omega arith;
      short = short;
      leading = λ z. let e : ◌≡◌ {A = ℕ} 1 0 = sym one ∙ z in omega arith;
      passed = λ k b. absurd (not-suc-le-zero b);
      runs = λ k h. sym (run_unit (nine 1 0) (list_of s) k (list-byte s) one short ∙ list_at s k h);
    }

-- ---- one run on, and the next vector

module _ {s : List ℕ} {l i : ℕ} (low high first last : ℕ) (red : Reducing s l i (nine low high) (entry (in_two first last))) where
  pub reducing_blended : {p d q q' u u' low' high' first' last' : ℕ} → i < 8 → l ≤ 8 → Kept s l i (nine q q') (entry (in_two u u')) p → p ≢ 0 → d ≡ byte_at first i
      → Blended p d low q low' → Blended p d high q' high' → Blended p d first u first' → Blended p d last u' last'
      → Reducing s l (i + 1) (nine low' high') (entry (in_two first' last'))
  reducing_blended {p} {d} {q} {q'} {u} {u'} {low'} {high'} {first'} {last'} inside few kept some e a a' b b' =
      reducing_mixed s l i (nine low high) (entry (in_two first last)) inside red (nine q q') (nine low' high') (entry (in_two u u')) (entry (in_two first' last')) p d kept some
      (e ∙ sym (entry-low (in_two first last) i inside)) (nine-byte low high l (omega arith)) (nine_mixed p d low high q q' low' high' a a')
      (λ k h. entries_blended p d first last u u' first' last' k b b' h)

  pub reducing_moved : length s ≡ 16 → l < 8 → first < 2 ^ 64 → last < 2 ^ 64
      → Reducing s (l + 1) (i - 1) (nine (low * 2 ^ 8 % 2 ^ 64) (low / 2 ^ 56)) (entry (moved_down first last))
  reducing_moved long few h h' =
      reducing_shifted s l i (nine low high) (nine (low * 2 ^ 8 % 2 ^ 64) (low / 2 ^ 56)) (entry (in_two first last))
      (entry (moved_down first last)) long few red (nine_shifted low high) (λ k b. entry_down (in_two first last) k h b ∙ ap (entry (in_two first last)) (sym (add-one k))) (entry_gone (in_two first last) h')

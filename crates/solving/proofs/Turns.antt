-- The turns of the search for the null vector (src/kernel.rt): l vectors are kept, and the next one is as far as run i.
-- Assumes nothing.
use mathlib.Core.Path.{◌≡◌, refl, sym, ap, ◌∙◌}
use mathlib.Core.Logic.{◌≢◌}
use mathlib.Core.List.{List}
use Prim.Native.Nat.{ℕ, ◌+◌, ◌-◌, ◌*◌, ◌/◌, ◌%◌, ◌^◌, ◌≤◌, ◌<◌}
use native.Mathlib.Omega.{arith}
use lib.Bits.{bit_xor}
use lib.ListN.{length, get_or, set, replicate, length-set}
use lib.Seq.{get_or-set_same, get_or-set_other}
use Rattle.words.specs.Words.{byte_at}
use Rattle.field.specs.declared.Sixteen.{Sixteen}
use Rattle.field.specs.Words.{entry}
use Rattle.errata.specs.InnerNull.{Annihilated, Blended, in_two, nine}
use Rattle.errata.proofs.Null.{Basis, Reducing, basis_start, basis_few, basis_more, more-few, reducing_skip}
use Rattle.field.proofs.InWords.{entry-low}
use Rattle.errata.specs.InnerValues.{list_of}
use Rattle.errata.proofs.Entries.{down_word}
use Rattle.errata.proofs.Vectors.{reducing_start, reducing_blended, reducing_moved}
use Rattle.solving.specs.declared.kernel.Vector.{Vector}

-- the nine entries, and the runs of them
abbrev pub nine_of : Vector → List ℕ
nine_of v = nine v.low v.high

abbrev pub runs_of : Vector → ℕ → ℕ
runs_of v = entry (in_two v.first v.last)

-- what is read where no vector is
abbrev pub none : Vector
none = record { low = 0; high = 0; first = 0; last = 0 }

pub record Keeping (s : List ℕ) (kept : List Vector) (pivots : List ℕ) (v : Vector) (i l : ℕ) : Type 0 where
  pub rows : length kept ≡ 8
  pub words : (v.first < 2 ^ 64) × (v.last < 2 ^ 64)
  pub basis : Basis s l (λ k. nine_of (get_or kept k none)) (λ k. runs_of (get_or kept k none)) pivots
  pub reducing : Reducing s l i (nine_of v) (runs_of v)

-- the first vector is 1, and its runs are the syndromes
abbrev pub begin : Sixteen → Vector
begin s = record { low = 1; high = 0; first = s.low; last = s.high }

pub keeping_start : (s : Sixteen) → s.low < 2 ^ 64 → s.high < 2 ^ 64
    → Keeping (list_of s) (replicate 8 (begin s)) (replicate 8 0) (begin s) 0 0
keeping_start s low high =
    record {
      rows = refl;
      words = (low, high);
      basis = basis_start (list_of s) (λ k. nine_of (get_or (replicate 8 (begin s)) k none)) (λ k. runs_of (get_or (replicate 8 (begin s)) k none));
      reducing = reducing_start s;
    }

module _ {s : List ℕ} {kept : List Vector} {pivots : List ℕ} {v : Vector} {i l : ℕ} (keeping : Keeping s kept pivots v i l) where
  pub few : l ≤ 8
  few = basis_few keeping.basis

  -- eight runs annihilate v
  pub keeping_end : {r : List ℕ} → 8 ≤ i → r ≡ nine_of v → Annihilated s r
  keeping_end h e =
      let r : Reducing s l i (nine_of v) (runs_of v) = keeping.reducing in
      rw e (record { top = l; inside = omega (arith, few); short = r.short; leading = r.leading; passed = λ k b. r.passed k (omega arith) })

  module _ (inside : i < 8) {d : ℕ} (e : d ≡ byte_at v.first i) where
    run : d ≡ runs_of v i
    run = e ∙ sym (entry-low (in_two v.first v.last) i inside)

    pub keeping_skip : d ≡ 0 → Keeping s kept pivots v (i + 1) l
    keeping_skip z =
        record {
          rows = keeping.rows;
          words = keeping.words;
          basis = keeping.basis;
          reducing = reducing_skip s l i (nine_of v) (runs_of v) inside keeping.reducing (sym run ∙ z);
        }

    -- the vector that is kept for the run takes away what the run gives
    pub keeping_mixed : {r : Vector} → get_or pivots i 0 ≢ 0
        → (Blended (get_or pivots i 0) d v.low (get_or kept i none).low r.low × Blended (get_or pivots i 0) d v.high (get_or kept i none).high r.high
        × Blended (get_or pivots i 0) d v.first (get_or kept i none).first r.first × Blended (get_or pivots i 0) d v.last (get_or kept i none).last r.last)
        → Keeping s kept pivots r (i + 1) l
    keeping_mixed {r} some mixed =
        record {
          rows = keeping.rows;
          words = (mixed.2.word, mixed.3.word);
          basis = keeping.basis;
          reducing = reducing_blended v.low v.high v.first v.last keeping.reducing inside few (keeping.basis.kept i inside some) some e mixed.0 mixed.1 mixed.2 mixed.3;
        }

    -- v is kept; there are no more than eight to keep, so that it was not the ninth
    pub keeping_more : {r : Vector} {g : ℕ} → length s ≡ 16 → d ≢ 0 → get_or pivots i 0 ≡ 0
        → ((r.low ≡ v.low * 2 ^ 8 % 2 ^ 64) × (r.high ≡ v.low / 2 ^ 56) × (r.first ≡ bit_xor (v.first / 2 ^ 8) (v.last * 2 ^ 56 % 2 ^ 64)) × (r.last ≡ v.last / 2 ^ 8)) → g ≡ i - 1
        → Keeping s (set kept i v) (set pivots i d) r g (l + 1)
    keeping_more {r} {g} long some free to back =
        let words : (v.first < 2 ^ 64) × (v.last < 2 ^ 64) = keeping.words in
        record {
          rows = length-set kept i v ∙ keeping.rows;
          words = (rw to.2 (down_word v.first v.last words.0), rw to.3 (omega (arith, words.1)));
          basis =
              basis_more keeping.basis i inside free (nine_of v) (runs_of v) d (λ k. nine_of (get_or (set kept i v) k none)) (λ k. runs_of (get_or (set kept i v) k none)) keeping.reducing some run
              (ap nine_of here) (ap runs_of here) (λ k n. ap nine_of (get_or-set_other kept i k v none n)) (λ k n. ap runs_of (get_or-set_other kept i k v none n));
          reducing = rw (to.0, to.1, to.2, to.3, back) (reducing_moved v.low v.high v.first v.last keeping.reducing long (more-few keeping.basis i inside free) words.0 words.1);
        }
      where
        here : get_or (set kept i v) i none ≡ v
        here = get_or-set_same kept i v none (omega (arith, keeping.rows))

-- The rows of one slot: the loop that writes them where they belong, and the loop that looks whether they hold 0 beyond the file's end. Assumes nothing.
use mathlib.Core.Path.{◌≡◌, refl, sym, ap, ap₂, ◌∙◌}
use mathlib.Core.Logic.{⊎_elim}
use mathlib.Core.Bool.{true, false}
use mathlib.Core.List.{List}
use Prim.Native.Nat.{ℕ, suc, ◌+◌, ◌-◌, ◌*◌, ◌<◌, ◌≤◌}
use native.Mathlib.Nat.{add-zero}
use native.Mathlib.Omega.{arith}
use borrow.Author.Count.{below_more}
use lib.ListN.{length, get_or}
use Rattle.ground.proofs.Listed.{get_or-listed, le_or_lt}
use Rattle.layout.specs.Spread.{spread, row_start, scattered}
use Rattle.layout.proofs.Scatter.{length-spread}
use Rattle.contents.specs.Contents.{bytes_at}
use Rattle.contents.proofs.Bytes.{length-bytes}
use Rattle.columns.specs.Handing.{all_zero}
use Rattle.handing.specs.Passes.{info_at, Scatters, Clear, Padding, clear, spoilt}
use Rattle.layout.specs.Spread.{Columns}
use Rattle.columns.proofs.ZeroLaws.{zero_all, Another, not_zero}

-- ---- rows that are written: j of them

pub record Scattering (m n : ℕ) (s : List ℕ) (at count q : ℕ) (before out : List ℕ) (j : ℕ) : Type 0 where
  pub within : j ≤ count
  pub long : length out ≡ length before
  pub done : Scatters m n s at j q before out

module _ (m n : ℕ) (s : List ℕ) (at count q : ℕ) (before : List ℕ) where
  pub scattering_first : Scattering m n s at count q before before 0
  scattering_first = record {
    within = omega arith;
    long = refl;
    done = λ row out h e. e ∙ ap (λ (x : ℕ). scattered m n row x out) (sym (add-zero q));
  }

  module _ (out : List ℕ) (j : ℕ) (v : Scattering m n s at count q before out j) where
    -- row q + j begins at p
    pub scattering_next : j < count → (p : ℕ) → p ≡ row_start m (q + j) → (z : List ℕ) → z ≡ spread m n (info_at s (at + j * 255)) p out
        → Scattering m n s at count q before z (j + 1)
    scattering_next h p r z e = record {
      within = omega arith;
      long = ap length e ∙ length-spread m n (info_at s (at + j * 255)) p out ∙ v.long;
      done = λ row first f d.
          let i : suc (q + j) ≡ q + (j + 1) = omega arith in
          e ∙ ap (λ (x : ℕ). spread m n (info_at s (at + j * 255)) x out) r
          ∙ ap₂ (λ (x y : List ℕ). spread m n x (row_start m (q + j)) y) (sym (f j (omega arith))) (v.done row first (λ k l. f k (omega arith)) d)
          ∙ ap (λ (x : ℕ). scattered m n row x first) i;
    }

    pub scattering_end : count ≤ j → Scatters m n s at count q before out
    scattering_end h row first f d =
        let i : j ≡ count = omega (arith, v.within) in
        v.done row first (λ k l. f k (omega arith)) d ∙ ap (λ (x : ℕ). scattered m n row (q + x) first) i

-- ---- rows that end in 0: j of them

pub record Clearing (m n : ℕ) (s : List ℕ) (at count q j : ℕ) : Type 0 where
  pub within : j ≤ count
  pub done : Clear m n s at j q

module _ (m n : ℕ) (s : List ℕ) (at count q : ℕ) where
  pub clearing_first : Clearing m n s at count q 0
  clearing_first = record { within = omega arith; done = λ j h. absurd (omega arith) }

  module _ (j : ℕ) (v : Clearing m n s at count q j) where
    pub clearing_end : count ≤ j → Padding m n s at count q true
    clearing_end h = clear (λ k l. v.done k (omega (arith, v.within)))

    -- row q + j begins at p
    module _ (h : j < count) (p k : ℕ) (r : p ≡ row_start m (q + j)) (w : Columns m n p k) where
      -- the bytes of row j beyond the file
      abbrev beyond : List ℕ
      beyond = bytes_at s (at + j * 255 + k) (at + j * 255 + 239 - (at + j * 255 + k))

      beyond-at : (i : ℕ) → k + i < 239 → get_or beyond i 0 ≡ get_or s (at + j * 255 + (k + i)) 0
      beyond-at i l =
          let e : at + j * 255 + k + i ≡ at + j * 255 + (k + i) = omega arith in
          get_or-listed (λ x. get_or s x 0) (at + j * 255 + 239 - (at + j * 255 + k)) (at + j * 255 + k) i 0 (omega arith) ∙ ap (λ (x : ℕ). get_or s x 0) e

      pub clearing_next : all_zero beyond ≡ true → Clearing m n s at count q (j + 1)
      clearing_next e = record {
        within = omega arith;
        done = below_more _ _ v.done (λ c l b. ⊎_elim
            (λ (x : k ≤ c).
            let i : k + (c - k) ≡ c = omega arith in
            ap (λ (y : ℕ). get_or s (at + j * 255 + y) 0) (sym i) ∙ sym (beyond-at (c - k) (omega arith)) ∙ zero_all beyond e (c - k))
            (λ (x : c < k). absurd (omega (arith, w.inside c x, r))) (le_or_lt k c));
      }

      pub clearing_not : all_zero beyond ≡ false → Padding m n s at count q false
      clearing_not e =
          let a : Another beyond = not_zero beyond e in
          let l : k + a.number < 239 = omega (arith, a.below, length-bytes s (at + j * 255 + k) (at + j * 255 + 239 - (at + j * 255 + k))) in
          spoilt j h (k + a.number) l (omega (arith, w.outside (k + a.number) (omega arith) l, r)) (λ d. a.other (beyond-at a.number l ∙ d))

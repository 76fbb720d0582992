-- Rows in the store and where they belong in the file: how many tables a file needs, where a row begins, which of its bytes stand in the file, and the loops
-- that write a row and that look for a byte that is not 0. Assumes nothing.
use mathlib.Core.Path.{◌≡◌, refl, sym, ap, ◌∙◌}
use mathlib.Core.Bool.{Bool, true, false}
use mathlib.Core.List.{List, [], ◌∷◌}
use Prim.Native.Nat.{ℕ, suc, ◌+◌, ◌-◌, ◌*◌, ◌<◌, ◌≤◌}
use native.Mathlib.Nat.{add-mul, suc-mul, mul-pos, zero-lt-suc}
use native.Mathlib.Omega.{arith}
use borrow.Author.Tests.{lt-leb, eq-eqb, ne_eqb, ltb-true, ltb-false}
use lib.Dec.{eqb, ltb, leb}
use lib.ListN.{length, get_or, set, length-set}
use Rattle.ground.specs.Lists.{listed}
use Rattle.ground.proofs.Listed.{length-listed, ceil_upper, ceil-short, ceil_is}
use Rattle.layout.specs.Layout.{tables_of}
use Rattle.layout.specs.Spread.{spread}
use Rattle.layout.proofs.Scatter.{set-yes, set-no, spread-step}
use Rattle.handing.specs.Passes.{info_at}
use Rattle.layout.specs.Spread.{Columns}

-- ---- how many tables a file of n bytes needs

module _ (n m t : ℕ) (h : 0 < m) where
  pub tables_few : t * (239 * m) < n → leb n (t * (239 * m)) ≡ eqb (tables_of m n) t
  tables_few l =
      lt-leb n (t * (239 * m)) l
      ∙ sym (ne_eqb (tables_of m n) t (λ e.
      let u = ceil_upper n (239 * m) (mul-pos (zero-lt-suc 238) h) in
      let d : tables_of m n * (239 * m) ≡ t * (239 * m) = ap (λ (x : ℕ). x * (239 * m)) e in
      omega arith))

  pub tables_enough : n ≤ t * (239 * m) → ltb (t * (239 * m) - n) (239 * m) ≡ eqb (tables_of m n) t
  tables_enough l = by (ltb (t * (239 * m) - n) (239 * m)) refl
    where
      by : (b : Bool) → ltb (t * (239 * m) - n) (239 * m) ≡ b → b ≡ eqb (tables_of m n) t
      by true e =
          let f = ltb-true (t * (239 * m) - n) (239 * m) e in
          sym (eq-eqb (tables_of m n) t (ceil_is n (239 * m) t (mul-pos (zero-lt-suc 238) h) l (omega arith)))
      by false e =
          let f = ltb-false (t * (239 * m) - n) (239 * m) e in
          sym (ne_eqb (tables_of m n) t (λ z.
          let u = ceil-short n (239 * m) (mul-pos (zero-lt-suc 238) h) in
          let d : tables_of m n * (239 * m) ≡ t * (239 * m) = ap (λ (x : ℕ). x * (239 * m)) z in
          omega arith))

-- ---- a row is written

-- bytes that all stand beyond n
pub spread_none : (m n : ℕ) (xs : List ℕ) (p : ℕ) (out : List ℕ) → ((c : ℕ) → c < length xs → n ≤ p + c * m) → out ≡ spread m n xs p out
spread_none m n [] p out h = refl
spread_none m n (x ∷ xs) p out h =
    let z : n ≤ p + 0 * m = h 0 (omega arith) in
    spread_none m n xs (p + m) out (λ c l. omega (arith, h (suc c) (omega arith), suc-mul c m))
    ∙ ap (spread m n xs (p + m)) (set-no n out p x (omega arith))

-- the bytes of f, w of them, the first c written
pub record Spreading (m n : ℕ) (f : ℕ → ℕ) (w p : ℕ) (before out : List ℕ) (to c : ℕ) : Type 0 where
  pub rest : spread m n (listed f (w - c) c) to out ≡ spread m n (listed f w 0) p before

module _ (m n : ℕ) (f : ℕ → ℕ) (w p : ℕ) (before : List ℕ) where
  pub spreading_first : Spreading m n f w p before before p 0
  spreading_first = let e : w - 0 ≡ w = omega arith in record { rest = ap (λ (x : ℕ). spread m n (listed f x 0) p before) e }

  module _ (out : List ℕ) (to c : ℕ) (v : Spreading m n f w p before out to c) where
    pub spreading_next : c < w → to < n → Spreading m n f w p before (set out to (f c)) (to + m) (c + 1)
    spreading_next h l = record { rest = spread-step m n f w c to out (set out to (f c)) h (set-yes n out to (f c) l) ∙ v.rest }

    pub spreading_end : ((i : ℕ) → c + i < w → n ≤ to + i * m) → out ≡ spread m n (listed f w 0) p before
    spreading_end h =
        spread_none m n (listed f (w - c) c) to out (λ i l. h i (omega (arith, length-listed f (w - c) c))) ∙ v.rest

-- ---- the loop that writes the first k bytes of a row
pub record RowWriting (s : List ℕ) (at k m p : ℕ) (before out : List ℕ) (c : ℕ) : Type 0 where
  pub within : c ≤ k
  pub long : length out ≡ length before
  pub rest : (n : ℕ) → Columns m n p k → Spreading m n (λ x. get_or s (at + x) 0) 239 p before out (p + c * m) c

module _ (s : List ℕ) (at k m p : ℕ) (before : List ℕ) where
  pub writing_first : RowWriting s at k m p before before 0
  writing_first =
      let z : p + 0 * m ≡ p = omega arith in
      record {
        within = omega arith;
        long = refl;
        rest = λ n e. rw z (spreading_first m n (λ x. get_or s (at + x) 0) 239 p before);
      }

  module _ (out : List ℕ) (c : ℕ) (v : RowWriting s at k m p before out c) where
    pub writing_room : c < k → ((i : ℕ) → i < k → p + i * m < length before) → p + c * m < length out
    writing_room h e = omega (arith, e c h, v.long)

    pub writing_next : c < k → RowWriting s at k m p before (set out (p + c * m) (get_or s (at + c) 0)) (c + 1)
    writing_next h =
        let z : p + (c + 1) * m ≡ p + c * m + m = omega (arith, add-mul c 1 m) in
        record {
          within = omega arith;
          long = length-set out (p + c * m) (get_or s (at + c) 0) ∙ v.long;
          rest = λ n e. rw z (spreading_next m n (λ x. get_or s (at + x) 0) 239 p before out (p + c * m) c (v.rest n e) (omega (arith, e.within)) (e.inside c h));
        }

    pub writing_end : k ≤ c → (n : ℕ) → Columns m n p k → out ≡ spread m n (info_at s at) p before
    unfolding info_at
    writing_end h n e =
        spreading_end m n (λ x. get_or s (at + x) 0) 239 p before out (p + c * m) c (v.rest n e) (λ i l.
        omega (arith, e.outside (c + i) (omega (arith, v.within)) l, add-mul c i m))

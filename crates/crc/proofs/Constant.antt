-- A table made row by row, each entry from the one above it, keeps the rule. The constant table is this one, which antt computes.
-- Assumes nothing.
use mathlib.Core.Path.{◌≡◌, refl, sym, ap, ◌∙◌}
use mathlib.Core.List.{List, [], ◌∷◌, ◌++◌, map}
use Prim.Native.Nat.{ℕ, zero, suc, ◌+◌, ◌*◌, ◌<◌}
use native.Mathlib.Nat.{zero-add, add-zero}
use native.Mathlib.Omega.{arith}
use lib.ListN.{length, get_or, length-append, length-map, get_or-append}
use lib.Seq.{get_or-append-add}
use Rattle.crc.specs.Crc.{bits}
use Rattle.crc.specs.Table.{effect, Rule}
use Rattle.crc.proofs.Linear.{bits_none, bits-append}

-- n numbers from i on
abbrev pub from : ℕ → ℕ → List ℕ
from zero i = []
from (suc n) i = i ∷ from n (suc i)

length_from : (n i : ℕ) → length (from n i) ≡ n
length_from zero i = refl
length_from (suc n) i = ap suc (length_from n (suc i))

get_or_from : (n i j : ℕ) → j < n → get_or (from n i) j 0 ≡ i + j
get_or_from zero i j h = absurd (omega arith)
get_or_from (suc n) i zero h = omega arith
get_or_from (suc n) i (suc j) h = get_or_from n (suc i) j (omega arith) ∙ omega arith

-- n rows: each is the one above it with a half byte of 0 behind
unfoldable pub rows_from : (ℕ → ℕ) → ℕ → List ℕ → List ℕ
rows_from next zero row = []
rows_from next (suc n) row = row ++ rows_from next n (map next row)

length-rows : (next : ℕ → ℕ) (n : ℕ) (row : List ℕ) → length row ≡ 16 → length (rows_from next n row) ≡ n * 16
unfolding rows_from
length-rows next zero row e = refl
length-rows next (suc n) row e =
    let i : length (rows_from next n (map next row)) ≡ n * 16 = length-rows next n (map next row) (length-map row next ∙ e) in
    length-append row (rows_from next n (map next row)) ∙ omega arith

get_d_map : (f : ℕ → ℕ) (l : List ℕ) (j : ℕ) → j < length l → get_or (map f l) j 0 ≡ f (get_or l j 0)
get_d_map f [] j h = absurd (omega arith)
get_d_map f (x ∷ l) zero h = refl
get_d_map f (x ∷ l) (suc j) h = get_d_map f l j (omega arith)

module _ (w g : ℕ) where
  abbrev next : ℕ → ℕ
  next v = bits w g 4 v zero

  abbrev single : ℕ → ℕ
  single x = bits w g 4 zero x

  -- the n rows of the table
  unfoldable pub table_of : ℕ → List ℕ
  table_of n = rows_from next n (map single (from 16 0))

  effect-none : (x : ℕ) → single x ≡ effect w g 0 x
  unfolding effect
  effect-none x = sym (bits_none w g (bits w g 4 zero x) zero)

  effect-more : (k x : ℕ) → next (effect w g k x) ≡ effect w g (suc k) x
  unfolding effect
  effect-more k x =
      let e : k * 4 + 4 ≡ suc k * 4 = omega arith in
      sym (bits-append w g (k * 4) 4 (bits w g 4 zero x) zero) ∙ ap (λ (n : ℕ). bits w g n (bits w g 4 zero x) zero) e

  first-row : (x : ℕ) → x < 16 → get_or (map single (from 16 0)) x 0 ≡ effect w g 0 x
  first-row x h =
      get_d_map single (from 16 0) x (omega arith) ∙ ap single (get_or_from 16 0 x h ∙ zero-add x) ∙ effect-none x

  rows_at : (n j : ℕ) (row : List ℕ) (k x : ℕ) → length row ≡ 16 → ((y : ℕ) → y < 16 → get_or row y 0 ≡ effect w g j y) → k < n → x < 16
      → get_or (rows_from next n row) (k * 16 + x) 0 ≡ effect w g (j + k) x
  unfolding rows_from
  rows_at zero j row k x e f p h = absurd (omega arith)
  rows_at (suc n) j row zero x e f p h =
      let z : 0 * 16 + x ≡ x = omega arith in
      ap (λ (i : ℕ). get_or (row ++ rows_from next n (map next row)) i 0) z
      ∙ get_or-append row (rows_from next n (map next row)) 0 x (omega arith) ∙ f x h ∙ ap (λ (i : ℕ). effect w g i x) (sym (add-zero j))
  rows_at (suc n) j row (suc k) x e f p h =
      let z : suc k * 16 + x ≡ length row + (k * 16 + x) = omega arith in
      let q : suc j + k ≡ j + suc k = omega arith in
      ap (λ (i : ℕ). get_or (row ++ rows_from next n (map next row)) i 0) z
      ∙ get_or-append-add row (rows_from next n (map next row)) (k * 16 + x) 0
      ∙ rows_at n (suc j) (map next row) k x (length-map row next ∙ e)
      (λ y l. get_d_map next row y (omega arith) ∙ ap next (f y l) ∙ effect-more j y) (omega arith) h
      ∙ ap (λ (i : ℕ). effect w g i x) q

  pub table_rule : (n : ℕ) → Rule w g n (table_of n)
  unfolding table_of
  table_rule n =
      let e : length (map single (from 16 0)) ≡ 16 = length-map (from 16 0) single ∙ length_from 16 0 in
      record {
        size = length-rows next n (map single (from 16 0)) e;
        entry = λ k x p h. rows_at n 0 (map single (from 16 0)) k x e first-row p h ∙ ap (λ (i : ℕ). effect w g i x) (zero-add k);
      }

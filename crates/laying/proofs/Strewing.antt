-- Bytes written m apart: what the loop over one row keeps (`Strewing`), and what the loop over the rows keeps (`Sown`), which ends with a run of bytes written one behind the other.
-- Assumes nothing.
use mathlib.Core.Path.{◌≡◌, refl, sym, ap, ◌∙◌, subst}
use mathlib.Core.Logic.{◌⊎◌, inl, inr, ⊎_elim}
use mathlib.Core.List.{List}
use Prim.Native.Nat.{ℕ, suc, ◌+◌, ◌-◌, ◌*◌, ◌/◌, ◌%◌, ◌<◌, ◌≤◌, min}
use native.Mathlib.Nat.{add-zero, add-mul, mul-le-mul_right, suc-mul, mod-lt, mod-le, div-add-mod'}
use native.Mathlib.Omega.{arith}
use lib.Arith.{digits_mod}
use lib.ListN.{length, get_or, set, length-set}
use lib.Seq.{sets, length-sets, get_or-set_same, get_or-set_other, ext_get_or}
use Rattle.ground.specs.Lists.{listed}
use Rattle.ground.proofs.Listed.{length-listed, get_or-listed, get_or-listed_0, listed_shift, le_or_lt}
use Rattle.encoding.proofs.Parts.{sets-beside, part-sets}
use Rattle.filling.specs.Put.{put_rows}
use Rattle.layout.specs.Layout.{row_of}
use Rattle.laying.specs.InnerLay.{table_byte, Table, Strewn}
use Rattle.laying.proofs.Positions.{row_in_lem}
use Rattle.laying.proofs.Starts.{row_put}

-- ---- one row

-- k bytes are written
pub record Strewing (f : ℕ → ℕ) (m n o : ℕ) (out₀ out : List ℕ) (k : ℕ) : Type 0 where
  pub few : k ≤ 255
  pub long : length out ≡ length out₀
  pub placed : (q : ℕ) → q < k → q * m < n → get_or out (o + q * m) 0 ≡ f q
  pub others : (y : ℕ) → ((q : ℕ) → q * m < n → y ≡ o + q * m → ⊥) → get_or out y 0 ≡ get_or out₀ y 0

pub strew_begin : (f : ℕ → ℕ) (m n o : ℕ) (out : List ℕ) → Strewing f m n o out out 0
strew_begin f m n o out = record { few = omega arith; long = refl; placed = λ q a b. absurd (omega arith); others = λ y h. refl }

-- q times m is below w times m
pub below-times : (q w m n : ℕ) → q * m < n → n ≤ w * m → q < w
below-times q w m n a b = ⊎_elim (λ (h : w ≤ q). absurd (omega (arith, mul-le-mul_right {m = w} {n = q} m h))) (λ (h : q < w). h) (le_or_lt w q)

-- from byte p of a table on, the columns that are left hold what is left
pub columns_left : (p n w m : ℕ) → p + n ≤ w * m → n ≤ (w - p / m) * m
columns_left p n w m h =
    let e : p / m * m + p % m ≡ p = div-add-mod' p m in
    let k : w * m ≤ (w - p / m + p / m) * m = mul-le-mul_right {m = w} {n = w - p / m + p / m} m (omega arith) in
    omega (arith, add-mul (w - p / m) (p / m) m)

module _ (f : ℕ → ℕ) (m n o : ℕ) (out₀ out : List ℕ) (k : ℕ) (s : Strewing f m n o out₀ out k) where
  pub strew_more : (v : ℕ) → 0 < m → k < 255 → k * m < n → o + n ≤ length out₀ → v ≡ f k → Strewing f m n o out₀ (set out (o + k * m) v) (k + 1)
  strew_more v h w l r e = record {
    few = omega arith;
    long = length-set out (o + k * m) v ∙ s.long;
    placed = λ q a b. by q a b (le_or_lt k q);
    others = λ y p. get_or-set_other out (o + k * m) y v 0 (p k l) ∙ s.others y p;
  }
    where
      by : (q : ℕ) → q < k + 1 → q * m < n → (k ≤ q) ⊎ (q < k) → get_or (set out (o + k * m) v) (o + q * m) 0 ≡ f q
      by q a b (inl g) =
          let d : k ≡ q = omega arith in
          let i : o + k * m < length out = omega (arith, s.long) in
          subst (λ (x : ℕ). get_or (set out (o + k * m) v) (o + x * m) 0 ≡ f x) d (get_or-set_same out (o + k * m) v 0 i ∙ e)
      by q a b (inr g) =
          get_or-set_other out (o + k * m) (o + q * m) v 0
          (λ (z : o + q * m ≡ o + k * m). omega (arith, suc-mul q m, mul-le-mul_right {m = suc q} {n = k} m g))
          ∙ s.placed q g b

  pub strew_end : n ≤ k * m → Strewn f m n o out₀ out
  strew_end l = record { long = s.long; placed = λ q b. s.placed q (below-times q k m n b l) b; others = s.others }

-- the same bytes, said otherwise
strewn_as : (f g : ℕ → ℕ) (m n o : ℕ) (out₀ out : List ℕ) → ((q : ℕ) → f q ≡ g q) → Strewn f m n o out₀ out → Strewn g m n o out₀ out
strewn_as f g m n o out₀ out e w = record { long = w.long; placed = λ q b. w.placed q b ∙ e q; others = w.others }

-- a buffer that had row r put into it, strewn from column p / m on
pub row_strewn : (file : List ℕ) (m t p n o : ℕ) → Table (length file) m t → (buffer row out₀ out : List ℕ) → length buffer ≡ 255
    → (r : ℕ) → row ≡ put_rows file m (t * (239 * m) + r) 1 buffer → r ≡ p % m → Strewn (λ q. get_or row (p / m + q) 0) m n o out₀ out
    → Strewn (λ q. table_byte m file t (p + q * m)) m n o out₀ out
row_strewn file m t p n o is buffer row out₀ out l r e k w =
    let d : row ≡ row_of m file t (p % m) =
    e ∙ ap (λ (x : ℕ). put_rows file m (t * (239 * m) + x) 1 buffer) k ∙ row_put file m t is (p % m) (mod-lt p is.rows) buffer l in
    strewn_as (λ q. get_or row (p / m + q) 0) (λ q. table_byte m file t (p + q * m)) m n o out₀ out
    (λ q. ap (λ (x : List ℕ). get_or x (p / m + q) 0) d ∙ sym (row_in_lem m is.rows file t p q)) w

-- ---- all rows

-- of n bytes from o on, those that have less than i before them in their column are f's
pub record Sown (f : ℕ → ℕ) (m n o : ℕ) (out₀ out : List ℕ) (i : ℕ) : Type 0 where
  pub within : i ≤ min n m
  pub long : length out ≡ length out₀
  pub placed : (q r : ℕ) → r < i → q * m + r < n → get_or out (o + (q * m + r)) 0 ≡ f (q * m + r)
  pub others : (y : ℕ) → (y < o) ⊎ (o + n ≤ y) → get_or out y 0 ≡ get_or out₀ y 0

pub sow_begin : (f : ℕ → ℕ) (m n o : ℕ) (out : List ℕ) → Sown f m n o out out 0
sow_begin f m n o out = record { within = omega arith; long = refl; placed = λ q r a b. absurd (omega arith); others = λ y h. refl }

module _ (f : ℕ → ℕ) (m n o : ℕ) (out₀ out : List ℕ) (i : ℕ) (s : Sown f m n o out₀ out i) where
  -- one row more
  pub sow_more : (g : ℕ → ℕ) (next : List ℕ) → i < min n m → ((q : ℕ) → g q ≡ f (q * m + i)) → Strewn g m (n - i) (o + i) out next → Sown f m n o out₀ next (i + 1)
  sow_more g next l e w = record {
    within = omega arith;
    long = w.long ∙ s.long;
    placed = λ q r a b. by q r a b (le_or_lt i r);
    others = λ y p. w.others y (λ q a z. ⊎_elim (λ (u : y < o). omega arith) (λ (u : o + n ≤ y). omega arith) p) ∙ s.others y p;
  }
    where
      by : (q r : ℕ) → r < i + 1 → q * m + r < n → (i ≤ r) ⊎ (r < i) → get_or next (o + (q * m + r)) 0 ≡ f (q * m + r)
      by q r a b (inl u) =
          let d : i ≡ r = omega arith in
          let z : o + (q * m + i) ≡ o + i + q * m = omega arith in
          subst (λ (x : ℕ). get_or next (o + (q * m + x)) 0 ≡ f (q * m + x)) d
          (ap (λ (x : ℕ). get_or next x 0) z ∙ w.placed q (omega arith) ∙ e q)
      by q r a b (inr u) =
          w.others (o + (q * m + r))
          (λ q' c z.
          let x : q * m + r ≡ q' * m + i = omega arith in
          let y : r ≡ i = sym (digits_mod q (omega arith)) ∙ ap (λ (v : ℕ). v % m) x ∙ digits_mod q' (omega arith) in
          omega arith)
          ∙ s.placed q r u b

  -- all of them
  pub sow_end : 0 < m → min n m ≤ i → o + n ≤ length out₀ → out ≡ sets out₀ o (listed f n 0)
  sow_end h l r = ext_get_or 0 out (sets out₀ o (listed f n 0)) (s.long ∙ sym (length-sets out₀ o (listed f n 0))) (λ y b. at y (le_or_lt o y) (le_or_lt (o + n) y))
    where
      there : (x : ℕ) → x < n → get_or out (o + x) 0 ≡ f x
      there x b =
          let d : x / m * m + x % m ≡ x = div-add-mod' x m in
          let a : x % m < m = mod-lt x h in
          let c : x % m ≤ x = mod-le x m in
          subst (λ (z : ℕ). get_or out (o + z) 0 ≡ f z) d (s.placed (x / m) (x % m) (omega arith) (omega arith))

      written : (x : ℕ) → x < n → get_or (sets out₀ o (listed f n 0)) (o + x) 0 ≡ f x
      written x b =
          let new : List ℕ = sets out₀ o (listed f n 0) in
          sym (get_or-listed (λ k. get_or new k 0) n o x 0 b)
          ∙ ap (λ (l : List ℕ). get_or l x 0) (part-sets out₀ (listed f n 0) o n (length-listed f n 0) r) ∙ get_or-listed_0 f n x 0 b

      at : (y : ℕ) → (o ≤ y) ⊎ (y < o) → (o + n ≤ y) ⊎ (y < o + n) → get_or out y 0 ≡ get_or (sets out₀ o (listed f n 0)) y 0
      at y (inr a) w = s.others y (inl a) ∙ sym (sets-beside out₀ o (listed f n 0) y (inl a))
      at y (inl a) (inl b) = s.others y (inr b) ∙ sym (sets-beside out₀ o (listed f n 0) y (inr (omega (arith, length-listed f n 0))))
      at y (inl a) (inr b) =
          let e : o + (y - o) ≡ y = omega arith in
          subst (λ (z : ℕ). get_or out z 0 ≡ get_or (sets out₀ o (listed f n 0)) z 0) e (there (y - o) (omega arith) ∙ sym (written (y - o) (omega arith)))

-- counted from p on
pub sown_from : (f : ℕ → ℕ) (p m n o : ℕ) (out₀ out : List ℕ) (i : ℕ) → Sown (λ x. f (p + x)) m n o out₀ out i → 0 < m → min n m ≤ i → o + n ≤ length out₀
    → out ≡ sets out₀ o (listed f n p)
sown_from f p m n o out₀ out i s h l r =
    sow_end (λ x. f (p + x)) m n o out₀ out i s h l r ∙ ap (sets out₀ o) (sym (listed_shift f n p 0) ∙ ap (listed f n) (add-zero p))

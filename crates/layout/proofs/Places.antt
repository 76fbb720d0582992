-- Where the bytes of a file stand in its tables, and where the bytes of the tables stand in what is sent, by rows or by columns: all three are the one position rule, which has its
-- inverse and its bounds in every order and at every width. Assumes nothing.
use mathlib.Core.Path.{◌≡◌, refl, sym, ap, ap₂, ◌∙◌, subst}
use mathlib.Core.Bool.{Bool, true, false, cond}
use Prim.Native.Nat.{ℕ, ◌+◌, ◌*◌, ◌/◌, ◌%◌, ◌<◌}
use native.Mathlib.Nat.{mul_assoc, mul_comm, add-mul, mod-lt, div-add-mod', mul-pos, div-div-eq-div-mul, div-lt_iff_lt-mul, zero-lt-suc}
use lib.Arith.{digits_div, digits_mod, mod-mul}
use lib.Dec.{eqb}
use Rattle.layout.specs.Layout.{Spot, byte_at, spot_at, file_byte_at, spot_of, sent_byte_at, sent_spot}
use Rattle.layout.specs.Rule.{Rule}

-- two spots are one where their numbers are
spot_ext : (a b : Spot) → a.table ≡ b.table → a.row ≡ b.row → a.column ≡ b.column → a ≡ b
spot_ext a b t r c = λ i. record { table = t i; row = r i; column = c i }

-- ---- column order

module _ (m w : ℕ) (h : 0 < m) (hw : 0 < w) where
  -- the columns of all tables counted through: table t, column c is column t · w + c
  byte_is : (t r c : ℕ) → t * (w * m) + c * m + r ≡ (t * w + c) * m + r
  byte_is t r c = ap (λ (x : ℕ). x + c * m + r) (sym (mul_assoc t w m)) ∙ ap (λ (x : ℕ). x + r) (sym (add-mul (t * w) c m))

  table_as : (i : ℕ) → i / (w * m) ≡ i / m / w
  table_as i = ap (λ (x : ℕ). i / x) (mul_comm w m) ∙ sym (div-div-eq-div-mul i m w)

  column_as : (i : ℕ) → i % (w * m) / m ≡ i / m % w
  column_as i = ap (λ (x : ℕ). x / m) (mod-mul i {m = w} {c = m} hw h) ∙ digits_div (i / m % w) (mod-lt i h)

  by_columns : Rule m w (byte_at 1 m w) (spot_at 1 m w)
  by_columns = record {
    row_below = λ i. mod-lt i h;
    column-below = λ i. subst (λ (x : ℕ). x < w) (sym (column_as i)) (mod-lt (i / m) hw);
    table_is = λ i. refl;
    byte_of_spot = λ i. byte_is (i / (w * m)) (i % m) (i % (w * m) / m)
        ∙ ap₂ (λ (x y : ℕ). (x * w + y) * m + i % m) (table_as i) (column_as i)
        ∙ ap (λ (x : ℕ). x * m + i % m) (div-add-mod' (i / m) w) ∙ div-add-mod' i m;
    spot_of_byte = λ s hr hc.
        let b : byte_at 1 m w s ≡ (s.table * w + s.column) * m + s.row = byte_is s.table s.row s.column in
        spot_ext (spot_at 1 m w (byte_at 1 m w s)) s
        (table_as (byte_at 1 m w s) ∙ ap (λ (x : ℕ). x / m / w) b ∙ ap (λ (x : ℕ). x / w) (digits_div (s.table * w + s.column) hr)
        ∙ digits_div s.table hc)
        (ap (λ (x : ℕ). x % m) b ∙ digits_mod (s.table * w + s.column) hr)
        (column_as (byte_at 1 m w s) ∙ ap (λ (x : ℕ). x / m % w) b
        ∙ ap (λ (x : ℕ). x % w) (digits_div (s.table * w + s.column) hr) ∙ digits_mod s.table hc);
  }

-- ---- row order

row-table : (m w i : ℕ) → i / (w * m) ≡ i / w / m
row-table m w i = sym (div-div-eq-div-mul i w m)

by_rows : (m w : ℕ) → 0 < m → 0 < w → Rule m w (byte_at 0 m w) (spot_at 0 m w)
by_rows m w h hw = record {
  row_below = λ j. mod-lt (j / w) h;
  column-below = λ j. mod-lt j hw;
  table_is = λ j. refl;
  byte_of_spot = λ j. ap (λ (x : ℕ). (x * m + j / w % m) * w + j % w) (row-table m w j)
      ∙ ap (λ (x : ℕ). x * w + j % w) (div-add-mod' (j / w) m) ∙ div-add-mod' j w;
  spot_of_byte = λ s hr hc.
      let d : byte_at 0 m w s / w ≡ s.table * m + s.row = digits_div (s.table * m + s.row) hc in
      spot_ext (spot_at 0 m w (byte_at 0 m w s)) s
      (row-table m w (byte_at 0 m w s) ∙ ap (λ (x : ℕ). x / m) d ∙ digits_div s.table hr)
      (ap (λ (x : ℕ). x % m) d ∙ digits_mod s.table hr)
      (digits_mod (s.table * m + s.row) hc);
}

-- ---- in every order

pub position_rule : (order m w : ℕ) → 0 < m → 0 < w → Rule m w (byte_at order m w) (spot_at order m w)
position_rule order m w h hw = by (eqb order 1)
  where
    by : (t : Bool) → Rule m w (λ s. cond t (byte_at 1 m w s) (byte_at 0 m w s)) (λ i. cond t (spot_at 1 m w i) (spot_at 0 m w i))
    by true = by_columns m w h hw
    by false = by_rows m w h hw

-- the bytes of the file, and what is sent
pub file_rule : (m : ℕ) → 0 < m → Rule m 239 (file_byte_at m) (spot_of m)
file_rule m h = position_rule 1 m 239 h (zero-lt-suc 238)

pub sent_rule : (order m : ℕ) → 0 < m → Rule m 255 (sent_byte_at order m) (sent_spot order m)
sent_rule order m h = position_rule order m 255 h (zero-lt-suc 254)

-- ---- what every rule gives

module _ (m w : ℕ) (byte_at : Spot → ℕ) (spot_at : ℕ → Spot) (h : 0 < m) (hw : 0 < w) (rule : Rule m w byte_at spot_at) where
  -- within t tables
  pub table_below : (t i : ℕ) → i < w * m * t → (spot_at i).table < t
  table_below t i l =
      subst (λ (x : ℕ). x < t) (sym (rule.table_is i)) ((div-lt_iff_lt-mul (mul-pos hw h)).1 (subst (λ (x : ℕ). i < x) (mul_comm (w * m) t) l))

  pub byte-below : (t : ℕ) (s : Spot) → s.table < t → s.row < m → s.column < w → byte_at s < w * m * t
  byte-below t s ht hr hc =
      let e : byte_at s / (w * m) ≡ s.table = sym (rule.table_is (byte_at s)) ∙ ap (λ (x : Spot). x.table) (rule.spot_of_byte s hr hc) in
      subst (λ (x : ℕ). byte_at s < x) (mul_comm t (w * m))
      ((div-lt_iff_lt-mul (mul-pos hw h)).0 (subst (λ (x : ℕ). x < t) (sym e) ht))

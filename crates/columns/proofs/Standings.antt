-- Where a byte of the file stands: in what was sent, and in which row and column. Assumes nothing.
use mathlib.Core.Path.{◌≡◌, sym, ap, ap₂, ◌∙◌}
use Prim.Native.Nat.{ℕ, ◌+◌, ◌-◌, ◌*◌, ◌/◌, ◌%◌, ◌<◌, ◌≤◌, min}
use native.Mathlib.Nat.{mod-lt, mul_comm, mul_assoc, mul-pos, add-mul, div-add-mod', zero-lt-suc, div-eq_of_lt-le, div-lt_iff_lt-mul, mul-add}
use native.Mathlib.Omega.{arith}
use lib.Arith.{digits_lt, digits_div, digits_mod}
use Rattle.ground.proofs.Listed.{ceil-short, ceil-below}
use Rattle.layout.specs.Layout.{Spot, tables_of, file_byte_at, spot_of, sent_byte_at, sent_spot}
use Rattle.layout.specs.Spread.{row_start}
use Rattle.layout.proofs.Places.{file_rule, sent_rule, table_below, byte-below}
use Rattle.layout.proofs.Coded.{tables_reach}
use Rattle.losses.specs.Losses.{sent_at}
use Rattle.columns.specs.Columns.{sent_length}
use Rattle.columns.specs.InnerBytes.{sent_of, row_number, Together}

-- sixteen columns more for each table
spread-out : (t m x y : ℕ) → t * (255 * m) + x + y ≡ t * (239 * m) + x + y + t * (16 * m)
spread-out t m x y =
    let e : t * (255 * m) ≡ t * 255 * m = sym (mul_assoc t 255 m) in
    let d : t * (239 * m) ≡ t * 239 * m = sym (mul_assoc t 239 m) in
    let g : t * (16 * m) ≡ t * 16 * m = sym (mul_assoc t 16 m) in
    let k : t * 255 ≡ t * 239 + t * 16 = omega arith in
    let s : t * 255 * m ≡ t * 239 * m + t * 16 * m = ap (λ (z : ℕ). z * m) k ∙ add-mul (t * 239) (t * 16) m in
    omega arith

module _ (m : ℕ) (h : 0 < m) where
  pub sent_is : (i : ℕ) → sent_of m i ≡ i + i / (239 * m) * (16 * m)
  sent_is i =
      let s : Spot = spot_of m i in
      spread-out s.table m (s.column * m) s.row ∙ ap (λ (x : ℕ). x + i / (239 * m) * (16 * m)) ((file_rule m h).byte_of_spot i)

  row_below : (i : ℕ) → (spot_of m i).row < m
  row_below i = (file_rule m h).row_below i

  pub column-below : (i : ℕ) → (spot_of m i).column < 239
  column-below i = (file_rule m h).column-below i

  table_of_lem : (i : ℕ) → row_number m i / m ≡ (spot_of m i).table
  table_of_lem i = digits_div (spot_of m i).table (row_below i)

  row_of_lem : (i : ℕ) → row_number m i % m ≡ (spot_of m i).row
  row_of_lem i = digits_mod (spot_of m i).table (row_below i)

  -- by the row's number
  pub sent_row : (i : ℕ) → sent_at m (row_number m i) (spot_of m i).column ≡ sent_of m i
  sent_row i = ap₂ (λ (x y : ℕ). sent_byte_at 1 m (record { table = x; row = y; column = (spot_of m i).column })) (table_of_lem i) (row_of_lem i)

  start_of_lem : (i : ℕ) → row_start m (row_number m i) + (spot_of m i).column * m ≡ i
  start_of_lem i =
      let s : Spot = spot_of m i in
      let e : row_start m (row_number m i) ≡ s.table * (239 * m) + 0 * m + s.row =
      ap₂ (λ (x y : ℕ). file_byte_at m (record { table = x; row = y; column = 0 })) (table_of_lem i) (row_of_lem i) in
      omega (arith, (file_rule m h).byte_of_spot i)

  -- a byte of row q, in its column
  pub stands_at : (q i : ℕ) → row_number m i ≡ q → i ≡ row_start m q + (spot_of m i).column * m
  stands_at q i e = sym (ap (λ (x : ℕ). row_start m x + (spot_of m i).column * m) (sym e) ∙ start_of_lem i)

  -- what stands in column c of row q
  spot_at_lem : (q c i : ℕ) → c < 239 → i ≡ row_start m q + c * m → spot_of m i ≡ record { table = q / m; row = q % m; column = c }
  spot_at_lem q c i l e =
      let s : Spot = record { table = q / m; row = q % m; column = c } in
      let d : row_start m q + c * m ≡ file_byte_at m s = omega arith in
      ap (spot_of m) (e ∙ d) ∙ (file_rule m h).spot_of_byte s (mod-lt q h) l

  pub number_at : (q c i : ℕ) → c < 239 → i ≡ row_start m q + c * m → row_number m i ≡ q
  number_at q c i l e = ap (λ (x : Spot). x.table * m + x.row) (spot_at_lem q c i l e) ∙ div-add-mod' q m

  pub column-at : (q c i : ℕ) → c < 239 → i ≡ row_start m q + c * m → (spot_of m i).column ≡ c
  column-at q c i l e = ap (λ (x : Spot). x.column) (spot_at_lem q c i l e)

  -- ---- in a file of n bytes
  module _ (n i : ℕ) (b : i < n) where
    inside : i < 239 * m * tables_of m n
    inside = omega (arith, tables_reach m n h)

    in_table : (spot_of m i).table < tables_of m n
    in_table = table_below m 239 (file_byte_at m) (spot_of m) h (zero-lt-suc 238) (file_rule m h) (tables_of m n) i inside

    pub sent_below : sent_of m i < sent_length m n
    sent_below =
        byte-below m 255 (sent_byte_at 1 m) (sent_spot 1 m) h (zero-lt-suc 254) (sent_rule 1 m h) (tables_of m n) (spot_of m i) in_table (row_below i)
        (omega (arith, column-below i))

    pub number-below : row_number m i < m * tables_of m n
    number-below = omega (arith, digits_lt in_table (row_below i), mul_comm (tables_of m n) m)

    pub sent_back : sent_spot 1 m (sent_of m i) ≡ spot_of m i
    sent_back = (sent_rule 1 m h).spot_of_byte (spot_of m i) (row_below i) (omega (arith, column-below i))

-- ---- numbers that stay small

-- what is sent for t tables beyond the file, and the end of the next one
pub checks_few : (m f : ℕ) → f / (239 * m) * (16 * m) ≤ f
checks_few m f =
    let t : ℕ = f / (239 * m) in
    let e : t * (239 * m) ≡ t * (16 * m) + t * (223 * m) = parts t m 16 223 in
    omega (arith, div-add-mod' f (239 * m))
  where
    parts : (t m a b : ℕ) → t * ((a + b) * m) ≡ t * (a * m) + t * (b * m)
    parts t m a b = ap (λ (x : ℕ). t * x) (add-mul a b m) ∙ mul-add t (a * m) (b * m)

-- the rows of a file of n bytes
module _ (m n : ℕ) (h : 0 < m) where
  pub rows_few : m * tables_of m n * 239 < n + 239 * m
  rows_few =
      let e : m * tables_of m n * 239 ≡ tables_of m n * (239 * m) = mul_assoc m (tables_of m n) 239 ∙ mul_comm m (tables_of m n * 239) ∙ mul_assoc (tables_of m n) 239 m in
      omega (arith, ceil-short n (239 * m) (mul-pos (zero-lt-suc 238) h))

  pub start_few : (q : ℕ) → q < m * tables_of m n → q / m * (239 * m) < n
  start_few q b =
      ceil-below n (239 * m) (q / m) (mul-pos (zero-lt-suc 238) h) ((div-lt_iff_lt-mul h).1 (omega (arith, mul_comm m (tables_of m n))))

  -- where one of them starts
  pub base_few : (q : ℕ) → m ≤ 255 → q < m * tables_of m n → q / m * (239 * m) + q % m < n + 255
  base_few q l b = let r : q % m < m = mod-lt q h in omega (arith, start_few q b)

-- ---- bytes that follow one another in one slot

module _ (m size n f left len : ℕ) (h : 0 < m) (g : 0 < size) (b : f < n) where
  abbrev t : ℕ
  t = f / (239 * m)

  abbrev j : ℕ
  j = f + t * (16 * m)

  pub below_next : f < (t + 1) * (239 * m)
  below_next =
      let e : (t + 1) * (239 * m) ≡ t * (239 * m) + 1 * (239 * m) = add-mul t 1 (239 * m) in
      let r : f % (239 * m) < 239 * m = mod-lt f (mul-pos (zero-lt-suc 238) h) in
      omega (arith, div-add-mod' f (239 * m), r)

  same-table : (i : ℕ) → f + i < (t + 1) * (239 * m) → (f + i) / (239 * m) ≡ t
  same-table i l = div-eq_of_lt-le {k = t} (239 * m) {m = f + i} (omega (arith, div-add-mod' f (239 * m))) l

  pub rest_below : j % size < size
  rest_below = mod-lt j g

  pub together : left ≡ min n ((t + 1) * (239 * m)) → len ≡ min (size - j % size) (left - f) → Together m size n f (j / size) (j % size) len
  together d e = record {
    some = omega (arith, rest_below, below_next);
    ends = omega arith;
    inside = omega (arith, rest_below);
    at = λ i l.
        let z : (f + i) / (239 * m) ≡ t = same-table i (omega arith) in
        let w : f + i + t * (16 * m) ≡ j / size * size + (j % size + i) = omega (arith, div-add-mod' j size) in
        sent_is m h (f + i) ∙ ap (λ (x : ℕ). f + i + x * (16 * m)) z ∙ w;
  }

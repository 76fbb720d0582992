-- The coded file: its length, its rows, that each is a coded row, and that undoing the tables gives the file followed by zeros. The last is said of any
-- position rule of what is sent. Assumes nothing.
use mathlib.Core.Path.{◌≡◌, sym, ap, ap₂, ◌∙◌}
use mathlib.Core.List.{List, ◌++◌, flatten}
use Prim.Native.Nat.{ℕ, ◌+◌, ◌-◌, ◌*◌, ◌/◌, ◌%◌, ◌<◌, ◌≤◌}
use native.Mathlib.Nat.{mul_assoc, mul_comm, mul-pos, mul-div_cancel_left, mul-mod_right, mod-lt, div-add-mod', zero-lt-suc}
use native.Mathlib.Omega.{arith}
use mathlib.Core.Logic.{⊎_elim}
use lib.Arith.{digits_div, digits_mod}
use lib.ListN.{length, get_or, take, drop, replicate, length-append, get_or-append, get_or-eq_default}
use Rattle.ground.specs.Lists.{listed}
use Rattle.ground.proofs.Listed.{length-listed, get_or-listed_0, slice_listed, listed_same, listed_ext, listed-whole, listed-padded, listed_constant, joined-pieces, joined-all, ceil_upper, le_or_lt}
use Rattle.code.specs.Code.{Bytes, Coded}
use Rattle.code.specs.Repair.{checks_of}
use Rattle.code.proofs.Lists.{bytes_of, bytes_at_lem}
use Rattle.code.proofs.Division.{length_checks, checks_exact}
use Rattle.layout.specs.Layout.{Spot, tables_of, file_byte_at, spot_of, sent_byte_at, sent_spot, info_of, row_of, coded_at, coded_file, undone}
use Rattle.layout.specs.Rule.{Rule}
use Rattle.layout.proofs.Places.{file_rule, sent_rule, table_below, byte-below}

-- ---- one row

pub length_info : (m : ℕ) (file : List ℕ) (t r : ℕ) → length (info_of m file t r) ≡ 239
unfolding info_of
length_info m file t r = length-listed (λ c. get_or file (file_byte_at m (record { table = t; row = r; column = c })) 0) 239 0

pub info_at_lem : (m : ℕ) (file : List ℕ) (t r c : ℕ) → c < 239
    → get_or (info_of m file t r) c 0 ≡ get_or file (file_byte_at m (record { table = t; row = r; column = c })) 0
unfolding info_of
info_at_lem m file t r c h = get_or-listed_0 (λ c. get_or file (file_byte_at m (record { table = t; row = r; column = c })) 0) 239 c 0 h

pub length-row : (m : ℕ) (file : List ℕ) (t r : ℕ) → length (row_of m file t r) ≡ 255
unfolding row_of
length-row m file t r =
    let i : List ℕ = info_of m file t r in
    let e : length i ≡ 239 = length_info m file t r in
    let k : length (checks_of i) ≡ 16 = length_checks i e in
    length-append i (checks_of i) ∙ omega arith

-- an information column of a row is a byte of the file
pub coded_at_lem : (m : ℕ) (file : List ℕ) (s : Spot) → s.column < 239 → coded_at m file s ≡ get_or file (file_byte_at m s) 0
unfolding row_of
coded_at_lem m file s h =
    let i : List ℕ = info_of m file s.table s.row in
    get_or-append i (checks_of i) 0 s.column (omega (arith, length_info m file s.table s.row)) ∙ info_at_lem m file s.table s.row s.column h

pub info_bytes : (m : ℕ) (file : List ℕ) (t r : ℕ) → Bytes file → Bytes (info_of m file t r)
info_bytes m file t r b = bytes_of (info_of m file t r) (λ c. ⊎_elim
    (λ (h : 239 ≤ c). omega (arith, get_or-eq_default (info_of m file t r) 0 {n = c} (omega (arith, length_info m file t r))))
    (λ (h : c < 239). omega (arith, info_at_lem m file t r c h, bytes_at_lem file b (file_byte_at m (record { table = t; row = r; column = c })))) (le_or_lt 239 c))

pub row-coded : (m : ℕ) (file : List ℕ) (t r : ℕ) → Bytes file → Coded (row_of m file t r)
unfolding row_of
row-coded m file t r b = (checks_exact (info_of m file t r) (length_info m file t r) (info_bytes m file t r b)).coded

-- rows of one table start at file bytes that follow each other: row i behind row r
pub info_from_lem : (m : ℕ) (file : List ℕ) (t r i : ℕ) → info_of m file t (r + i) ≡ listed (λ c. get_or file (t * (239 * m) + r + i + c * m) 0) 239 0
unfolding info_of
info_from_lem m file t r i =
    listed_ext (λ c. get_or file (file_byte_at m (record { table = t; row = r + i; column = c })) 0) (λ c. get_or file (t * (239 * m) + r + i + c * m) 0) 239 0
    (λ c a b. let e : t * (239 * m) + c * m + (r + i) ≡ t * (239 * m) + r + i + c * m = omega arith in ap (λ (x : ℕ). get_or file x 0) e)

-- ---- all bytes, in every order

pub length-coded : (order m : ℕ) (file : List ℕ) → length (coded_file order m file) ≡ 255 * m * tables_of m (length file)
unfolding coded_file
length-coded order m file = length-listed (λ j. coded_at m file (sent_spot order m j)) (255 * m * tables_of m (length file)) 0

-- whole tables, as many as the file needs
pub coded_shape : (order m : ℕ) (file : List ℕ) → 0 < m → length (coded_file order m file) / 255 % m ≡ 0
coded_shape order m file h =
    ap (λ (x : ℕ). x / 255 % m) (length-coded order m file ∙ mul_assoc 255 m (tables_of m (length file)))
    ∙ ap (λ (x : ℕ). x % m) (mul-div_cancel_left (m * tables_of m (length file)) {n = 255} (zero-lt-suc 254)) ∙ mul-mod_right m (tables_of m (length file))

pub coded_tables : (order m : ℕ) (file : List ℕ) → 0 < m → length (coded_file order m file) / (255 * m) ≡ tables_of m (length file)
coded_tables order m file h =
    ap (λ (x : ℕ). x / (255 * m)) (length-coded order m file) ∙ mul-div_cancel_left (tables_of m (length file)) {n = 255 * m} (mul-pos (zero-lt-suc 254) h)

pub coded-bytes : (order m : ℕ) (file : List ℕ) → Bytes file → Bytes (coded_file order m file)
unfolding coded_file
coded-bytes order m file b =
    let n : ℕ = 255 * m * tables_of m (length file) in
    bytes_of (coded_file order m file)
    (λ j. ⊎_elim
    (λ (l : n ≤ j). omega (arith, get_or-eq_default (coded_file order m file) 0 {n = j} (omega (arith, length-coded order m file))))
    (λ (l : j < n).
    let s : Spot = sent_spot order m j in
    omega (
      arith,
      get_or-listed_0 (λ j. coded_at m file (sent_spot order m j)) n j 0 l,
      bytes_at_lem (row_of m file s.table s.row) (row-coded m file s.table s.row b).bytes s.column,
    ))
    (le_or_lt n j))

-- ---- row order: the rows of all tables, one behind the other

module _ (m : ℕ) (h : 0 < m) (file : List ℕ) where
  -- byte c of row q
  spot_at_lem : (q c : ℕ) → c < 255 → sent_spot 0 m (q * 255 + c) ≡ record { table = q / m; row = q % m; column = c }
  spot_at_lem q c l =
      let s : Spot = record { table = q / m; row = q % m; column = c } in
      ap (λ (x : ℕ). sent_spot 0 m (x * 255 + c)) (sym (div-add-mod' q m)) ∙ (sent_rule 0 m h).spot_of_byte s (mod-lt q h) l

  whole-rows : (q : ℕ) → q < m * tables_of m (length file) → q * 255 + 255 ≤ 255 * m * tables_of m (length file)
  whole-rows q l = let e : 255 * m * tables_of m (length file) ≡ 255 * (m * tables_of m (length file)) = mul_assoc 255 m (tables_of m (length file)) in omega arith

  -- row q of the coded file
  pub coded_row_lem : (q : ℕ) → q < m * tables_of m (length file) → take 255 (drop (q * 255) (coded_file 0 m file)) ≡ row_of m file (q / m) (q % m)
  unfolding coded_file
  coded_row_lem q l =
      let row : List ℕ = row_of m file (q / m) (q % m) in
      let n : length row ≡ 255 = length-row m file (q / m) (q % m) in
      slice_listed (λ j. coded_at m file (sent_spot 0 m j)) (255 * m * tables_of m (length file)) 0 (q * 255) 255 (whole-rows q l)
      ∙ listed_same (λ j. coded_at m file (sent_spot 0 m j)) (λ c. get_or row c 0) 255 (0 + q * 255) 0 (λ c k.
      let e : 0 + q * 255 + c ≡ q * 255 + c = omega arith in
      let z : c ≡ 0 + c = omega arith in
      ap (λ (x : ℕ). coded_at m file (sent_spot 0 m x)) e ∙ ap (coded_at m file) (spot_at_lem q c k) ∙ ap (λ (x : ℕ). get_or row x 0) z)
      ∙ ap (λ (x : ℕ). listed (λ c. get_or row c 0) x 0) (sym n) ∙ listed-whole row 0

  -- the rows behind row q, as long as they lie in its table
  pub row-behind : (q i : ℕ) → q % m + i < m → row_of m file ((q + i) / m) ((q + i) % m) ≡ row_of m file (q / m) (q % m + i)
  row-behind q i l =
      let e : q + i ≡ q / m * m + (q % m + i) = omega (arith, div-add-mod' q m) in
      ap₂ (row_of m file) (ap (λ (x : ℕ). x / m) e ∙ digits_div (q / m) l) (ap (λ (x : ℕ). x % m) e ∙ digits_mod (q / m) l)

  -- k rows of it, from row q on
  pub coded_rows_lem : (q k : ℕ) → q + k ≤ m * tables_of m (length file)
      → take (k * 255) (drop (q * 255) (coded_file 0 m file)) ≡ flatten (listed (λ i. row_of m file (i / m) (i % m)) k q)
  coded_rows_lem q k l =
      sym
      (ap flatten
      (listed_ext (λ i. row_of m file (i / m) (i % m)) (λ i. take 255 (drop (i * 255) (coded_file 0 m file))) k q (λ i a b. sym (coded_row_lem i (omega arith))))
      ∙ joined-pieces (coded_file 0 m file) 255 k q)

  -- its rows joined
  pub coded-joined : flatten (listed (λ q. row_of m file (q / m) (q % m)) (m * tables_of m (length file)) 0) ≡ coded_file 0 m file
  coded-joined =
      let n : ℕ = m * tables_of m (length file) in
      let e : 255 * m * tables_of m (length file) ≡ 255 * n = mul_assoc 255 m (tables_of m (length file)) in
      ap flatten (listed_ext (λ q. row_of m file (q / m) (q % m)) (λ q. take 255 (drop (q * 255) (coded_file 0 m file))) n 0 (λ q a b. sym (coded_row_lem q (omega arith))))
      ∙ joined-all (coded_file 0 m file) 255 n (omega (arith, length-coded 0 m file))

-- ---- the tables undone

-- the tables reach the end of the file
pub tables_reach : (m n : ℕ) → 0 < m → n ≤ 239 * m * tables_of m n
tables_reach m n h =
    let b : n ≤ tables_of m n * (239 * m) = ceil_upper n (239 * m) (mul-pos (zero-lt-suc 238) h) in
    omega (arith, mul_comm (tables_of m n) (239 * m))

module _ (m : ℕ) (h : 0 < m) (byte_at : Spot → ℕ) (spot_at : ℕ → Spot) (rule : Rule m 255 byte_at spot_at) (file : List ℕ) where
  -- what is sent under the rule
  abbrev pub laid : List ℕ
  laid = listed (λ j. coded_at m file (spot_at j)) (255 * m * tables_of m (length file)) 0

  -- byte i of the file is read back where the rule has sent it
  pub laid_at : (i : ℕ) → i < 239 * m * tables_of m (length file) → get_or laid (byte_at (spot_of m i)) 0 ≡ get_or file i 0
  laid_at i l =
      let s : Spot = spot_of m i in
      let r : s.row < m = (file_rule m h).row_below i in
      let c : s.column < 239 = (file_rule m h).column-below i in
      let t : s.table < tables_of m (length file) = table_below m 239 (file_byte_at m) (spot_of m) h (zero-lt-suc 238) (file_rule m h) (tables_of m (length file)) i l in
      get_or-listed_0 (λ j. coded_at m file (spot_at j)) (255 * m * tables_of m (length file)) (byte_at s) 0
      (byte-below m 255 byte_at spot_at h (zero-lt-suc 254) rule (tables_of m (length file)) s t r (omega arith))
      ∙ ap (coded_at m file) (rule.spot_of_byte s r (omega arith)) ∙ coded_at_lem m file s c
      ∙ ap (λ (x : ℕ). get_or file x 0) ((file_rule m h).byte_of_spot i)

  -- n bytes from byte i on: those of the file, and zeros beyond it
  pub laid_undone : (n i : ℕ) → i + n ≤ 239 * m * tables_of m (length file)
      → listed (λ k. get_or laid (byte_at (spot_of m k)) 0) n i ≡ listed (λ k. get_or file k 0) n i
  laid_undone n i l =
      listed_ext (λ k. get_or laid (byte_at (spot_of m k)) 0) (λ k. get_or file k 0) n i (λ k a b. laid_at k (omega arith))

module _ (order m : ℕ) (h : 0 < m) (file : List ℕ) where
  pub undone-part : (n i : ℕ) → i + n ≤ 239 * m * tables_of m (length file) → undone order m (coded_file order m file) n i ≡ listed (λ k. get_or file k 0) n i
  unfolding coded_file
  undone-part n i l = laid_undone m h (sent_byte_at order m) (sent_spot order m) (sent_rule order m h) file n i l

  -- all of it: the file followed by zeros
  pub undone-coded : undone order m (coded_file order m file) (239 * m * tables_of m (length file)) 0
      ≡ file ++ replicate (239 * m * tables_of m (length file) - length file) 0
  undone-coded =
      undone-part (239 * m * tables_of m (length file)) 0 (omega arith)
      ∙ listed-padded file 0 (239 * m * tables_of m (length file)) (tables_reach m (length file) h)

  pub undone-file : undone order m (coded_file order m file) (length file) 0 ≡ file
  undone-file = undone-part (length file) 0 (omega (arith, tables_reach m (length file) h)) ∙ listed-whole file 0

  -- every padding position holds 0
  pub undone_padding : (n : ℕ) → length file + n ≤ 239 * m * tables_of m (length file) → undone order m (coded_file order m file) n (length file) ≡ replicate n 0
  undone_padding n l =
      undone-part n (length file) l
      ∙ listed_same (λ k. get_or file k 0) (λ k. 0) n (length file) 0 (λ k p. get_or-eq_default file 0 (omega arith))
      ∙ listed_constant 0 n 0

-- The rows that were sent hold 0 beyond byte n of the file exactly if every padding position does: document 01, section 6, refusal 24. A position of the file
-- is one column of one row. Assumes nothing.
use mathlib.Core.Path.{◌≡◌, sym, ap, ap₂, ◌∙◌}
use mathlib.Core.Bool.{Bool, true, false}
use mathlib.Core.List.{List}
use Prim.Native.Nat.{ℕ, ◌+◌, ◌-◌, ◌*◌, ◌/◌, ◌%◌, ◌<◌, ◌≤◌}
use native.Mathlib.Nat.{mul_comm, mod-lt, div-add-mod', div-lt_iff_lt-mul, zero-lt-suc}
use native.Mathlib.Omega.{arith}
use lib.Arith.{digits_lt, digits_div, digits_mod}
use lib.ListN.{get_or}
use Rattle.ground.proofs.Listed.{length-listed, get_or-listed}
use Rattle.layout.specs.Layout.{Spot, file_byte_at, spot_of, sent_byte_at, read_back, undone}
use Rattle.layout.specs.Spread.{row_start}
use Rattle.layout.proofs.Places.{file_rule, table_below, byte-below}
use Rattle.columns.specs.Handing.{all_zero}
use Rattle.handing.specs.Passes.{Padding, clear, spoilt}
use Rattle.columns.proofs.ZeroLaws.{all_zero_lem, one_not}

module _ (m : ℕ) (h : 0 < m) (sent : List ℕ) (n t : ℕ) where
  -- byte c of row q
  abbrev spot_in : ℕ → ℕ → Spot
  spot_in q c = record { table = q / m; row = q % m; column = c }

  byte_in_lem : (q c : ℕ) → row_start m (0 + q) + c * m ≡ file_byte_at m (spot_in q c)
  byte_in_lem q c = let z : 0 + q ≡ q = omega arith in ap (λ (x : ℕ). row_start m x + c * m) z ∙ omega arith

  -- it is read back as byte x of the file, if that is its position
  read_in : (q c x : ℕ) → c < 239 → file_byte_at m (spot_in q c) ≡ x → read_back 0 m sent x ≡ get_or sent (0 + q * 255 + c) 0
  read_in q c x b e =
      let s : spot_of m x ≡ spot_in q c = ap (spot_of m) (sym e) ∙ (file_rule m h).spot_of_byte (spot_in q c) (mod-lt q h) b in
      let d : sent_byte_at 0 m (spot_in q c) ≡ 0 + q * 255 + c = omega (arith, div-add-mod' q m) in
      ap (λ (y : ℕ). get_or sent y 0) (ap (sent_byte_at 0 m) s ∙ d)

  -- the row and the column of byte x
  row_of : ℕ → ℕ
  row_of x = (spot_of m x).table * m + (spot_of m x).row

  position : (x : ℕ) → file_byte_at m (spot_in (row_of x) (spot_of m x).column) ≡ x
  unfolding row_of
  position x =
      let a : row_of x / m ≡ (spot_of m x).table = digits_div (spot_of m x).table (mod-lt x h) in
      let b : row_of x % m ≡ (spot_of m x).row = digits_mod (spot_of m x).table (mod-lt x h) in
      ap₂ (λ (y z : ℕ). file_byte_at m (record { table = y; row = z; column = (spot_of m x).column })) a b ∙ (file_rule m h).byte_of_spot x

  row_below : (x : ℕ) → x < 239 * m * t → row_of x < m * t
  unfolding row_of
  row_below x l =
      let g : (spot_of m x).table < t = table_below m 239 (file_byte_at m) (spot_of m) h (zero-lt-suc 238) (file_rule m h) t x l in
      omega (arith, digits_lt g (mod-lt x h), mul_comm t m)

  -- the padding positions
  abbrev beyond : List ℕ
  beyond = undone 0 m sent (239 * m * t - n) n

  beyond-at : (x : ℕ) → n ≤ x → x < 239 * m * t → get_or beyond (x - n) 0 ≡ read_back 0 m sent x
  beyond-at x a b =
      let e : n + (x - n) ≡ x = omega arith in
      get_or-listed (read_back 0 m sent) (239 * m * t - n) n (x - n) 0 (omega arith) ∙ ap (read_back 0 m sent) e

  pub padding_told : (r : Bool) → Padding m n sent 0 (m * t) 0 r → r ≡ all_zero beyond
  padding_told true (clear g) =
      sym (all_zero_lem beyond (λ i l.
      let b : i < 239 * m * t - n = omega (arith, length-listed (read_back 0 m sent) (239 * m * t - n) n) in
      let q : ℕ = row_of (n + i) in
      let c : ℕ = (spot_of m (n + i)).column in
      let c' : c < 239 = (file_rule m h).column-below (n + i) in
      get_or-listed (read_back 0 m sent) (239 * m * t - n) n i 0 b ∙ read_in q c (n + i) c' (position (n + i))
      ∙ g q (row_below (n + i) (omega arith)) c c' (omega (arith, byte_in_lem q c, position (n + i)))))
  padding_told false (spoilt q a c b e d) =
      let x : ℕ = file_byte_at m (spot_in q c) in
      let l : q / m < t = (div-lt_iff_lt-mul {k = m} {x = q} {y = t} h).1 (omega (arith, mul_comm m t)) in
      let k : x < 239 * m * t = byte-below m 239 (file_byte_at m) (spot_of m) h (zero-lt-suc 238) (file_rule m h) t (spot_in q c) l (mod-lt q h) b in
      let e' : n ≤ x = omega (arith, byte_in_lem q c) in
      sym (one_not beyond (x - n) (λ z. d (sym (beyond-at x e' k ∙ read_in q c x b (λ i. x)) ∙ z)))

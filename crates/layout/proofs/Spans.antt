-- Where a row begins in the file, and which of its information bytes stand there.
-- Assumes nothing.
use mathlib.Core.Path.{◌≡◌, sym, ap, ◌∙◌}
use Prim.Native.Nat.{ℕ, suc, ◌+◌, ◌-◌, ◌*◌, ◌/◌, ◌%◌, ◌^◌, ◌<◌, ◌≤◌}
use native.Mathlib.Nat.{suc-mul, mul_assoc, mul_comm, mul-le-mul_right, mod-lt, mod-add-mod, div-add-mod', le-div_iff_mul-le}
use Rattle.std.specs.Prelude.{min}
use native.Mathlib.Omega.{arith}
use Rattle.layout.specs.Spread.{row_start, columns_within, Columns}

-- ---- where a row begins

start_by : (m q : ℕ) → (q - q % m) * 239 + q % m ≡ row_start m q
start_by m q =
    let e : q / m * (239 * m) ≡ q / m * m * 239 = ap (λ (x : ℕ). q / m * x) (mul_comm 239 m) ∙ sym (mul_assoc (q / m) m 239) in
    omega (arith, e, div-add-mod' q m)

-- modulo w
pub start_modulo : (m q w : ℕ) → ((q - q % m) * 239 % w + q % m) % w ≡ row_start m q % w
start_modulo m q w = mod-add-mod ((q - q % m) * 239) w (q % m) ∙ ap (λ (x : ℕ). x % w) (start_by m q)

-- of a row that is counted in a word
pub start_told : (m q r : ℕ) → q * 255 < 2 ^ 63 → r ≡ row_start m q % 2 ^ 64 → r ≡ row_start m q
start_told m q r b e = omega (arith, start_by m q, e)

-- ---- which bytes of a row stand in the file

pub columns_full : (m p n : ℕ) → 0 < m → m ≤ (n - p) / 239 → 239 ≡ columns_within m p n
columns_full m p n h l =
    let x : ℕ = n - p + (m - 1) in
    let b : 239 * m ≤ x = omega arith in
    let d : 239 ≤ x / m = (le-div_iff_mul-le {k = m} {x = 239} {y = x} h).1 b in
    omega arith

pub columns_told : (m p n k : ℕ) → 0 < m → k ≡ columns_within m p n → Columns m n p k
columns_told m p n k h e =
    let x : ℕ = n - p + (m - 1) in
    let d : ℕ = x / m in
    let k' : k ≡ min d 239 = e in
    let f : d * m + x % m ≡ x = div-add-mod' x m in
    let r : x % m < m = mod-lt x h in
    record {
      within = omega arith;
      inside = λ c l.
          let c' : suc c ≤ d = omega arith in
          omega (arith, mul-le-mul_right m c', suc-mul c m);
      outside = λ c a b.
          let c' : d ≤ c = omega arith in
          omega (arith, mul-le-mul_right m c');
    }

-- of a row that is counted in a word, from where it begins as the code reckons it
pub row_told : (m q n r k : ℕ) → 0 < m → q * 255 < 2 ^ 63 → r ≡ row_start m q % 2 ^ 64 → k ≡ columns_within m r n → Columns m n (row_start m q) k
row_told m q n r k h b e f = columns_told m (row_start m q) n k h (f ∙ ap (λ (x : ℕ). columns_within m x n) (start_told m q r b e))

-- Rows written one by one to where their information bytes stand give the file: a position below n belongs to one row and one column, so one row writes it,
-- and no later row changes it. Assumes nothing.
use mathlib.Core.Path.{◌≡◌, refl, sym, ap, ap₂, ◌∙◌}
use mathlib.Core.Logic.{⊎_elim, ◌≢◌}
use mathlib.Core.Bool.{Bool, true, false, cond}
use mathlib.Core.List.{List, [], ◌∷◌, ◌++◌}
use Prim.Native.Nat.{ℕ, zero, suc, ◌+◌, ◌-◌, ◌*◌, ◌/◌, ◌%◌, ◌<◌, ◌≤◌}
use native.Mathlib.Nat.{mod-lt, div-add-mod', mul_comm, zero-lt-suc, eq-or-lt_of_le, suc-mul, le_of_suc-le-suc}
use native.Mathlib.Omega.{arith}
use borrow.Author.Tests.{lt-ltb, le-ltb, ltb-true}
use lib.Arith.{digits_lt, digits_div, digits_mod}
use lib.Dec.{ltb}
use lib.ListN.{length, get_or, set, drop, length-set, length-append, length-drop, get_or-append}
use lib.Seq.{get_or-set_same, get_or-set_other, get_or-append-add, get_or-drop, ext_get_or}
use Rattle.ground.specs.Lists.{listed}
use Rattle.ground.proofs.Listed.{length-listed, get_or-listed_0, le_or_lt}
use Rattle.layout.specs.Layout.{Spot, file_byte_at, spot_of, read_back, undone}
use Rattle.layout.specs.Spread.{set_below, spread, row_start, scattered}
use Rattle.layout.proofs.Places.{file_rule, table_below}

-- ---- one write
set_in : (n : ℕ) (out : List ℕ) (p x : ℕ) → p < n → n ≤ length out → get_or (set_below n out p x) p 0 ≡ x
unfolding set_below
set_in n out p x h l = ap (λ (b : Bool). get_or (cond b (set out p x) out) p 0) (lt-ltb p n h) ∙ get_or-set_same out p x 0 (omega arith)

set_off : (n : ℕ) (out : List ℕ) (p x i : ℕ) → (p < n → i ≢ p) → get_or (set_below n out p x) i 0 ≡ get_or out i 0
unfolding set_below
set_off n out p x i h = go (ltb p n) refl
  where
    go : (b : Bool) → ltb p n ≡ b → get_or (cond b (set out p x) out) i 0 ≡ get_or out i 0
    go true e = get_or-set_other out p i x 0 (h (ltb-true p n e))
    go false e = refl

pub set-yes : (n : ℕ) (out : List ℕ) (p x : ℕ) → p < n → set out p x ≡ set_below n out p x
unfolding set_below
set-yes n out p x h = ap (λ (b : Bool). cond b (set out p x) out) (sym (lt-ltb p n h))

pub set-no : (n : ℕ) (out : List ℕ) (p x : ℕ) → n ≤ p → out ≡ set_below n out p x
unfolding set_below
set-no n out p x h = ap (λ (b : Bool). cond b (set out p x) out) (sym (le-ltb p n h))

pub length-below : (n : ℕ) (out : List ℕ) (p x : ℕ) → length (set_below n out p x) ≡ length out
unfolding set_below
length-below n out p x = go (ltb p n)
  where
    go : (b : Bool) → length (cond b (set out p x) out) ≡ length out
    go true = length-set out p x
    go false = refl

module _ (m n : ℕ) where
  pub length-spread : (xs : List ℕ) (p : ℕ) (out : List ℕ) → length (spread m n xs p out) ≡ length out
  length-spread [] p out = refl
  length-spread (x ∷ xs) p out = length-spread xs (p + m) (set_below n out p x) ∙ length-below n out p x

  -- ---- one row: a position that it does not write, and one that it writes
  spread_off : (xs : List ℕ) (p : ℕ) (out : List ℕ) (i : ℕ) → ((c : ℕ) → c < length xs → p + c * m < n → i ≢ p + c * m)
      → get_or (spread m n xs p out) i 0 ≡ get_or out i 0
  spread_off [] p out i h = refl
  spread_off (x ∷ xs) p out i h =
      spread_off xs (p + m) (set_below n out p x) i
      (λ c l k. let e : suc c * m ≡ c * m + m = suc-mul c m in let q : p + suc c * m ≡ p + m + c * m = omega arith in λ d. h (suc c) (omega arith) (omega arith) (d ∙ sym q))
      ∙ set_off n out p x i (λ k d. let z : p + 0 * m ≡ p = omega arith in h 0 (omega arith) (omega arith) (d ∙ sym z))

  spread_in : (xs : List ℕ) (p : ℕ) (out : List ℕ) (c i : ℕ) → 0 < m → c < length xs → i ≡ p + c * m → i < n → n ≤ length out
      → get_or (spread m n xs p out) i 0 ≡ get_or xs c 0
  spread_in [] p out c i q h e l r = absurd (omega arith)
  spread_in (x ∷ xs) p out zero i q h e l r =
      let z : i ≡ p = omega arith in
      spread_off xs (p + m) (set_below n out p x) i (λ c a b d. omega arith)
      ∙ ap (λ (j : ℕ). get_or (set_below n out p x) j 0) z ∙ set_in n out p x (omega arith) r
  spread_in (x ∷ xs) p out (suc c) i q h e l r =
      let d : suc c * m ≡ c * m + m = suc-mul c m in
      spread_in xs (p + m) (set_below n out p x) c i q (omega arith) (omega arith) l (omega (arith, length-below n out p x))

  pub length-scattered : (row : ℕ → List ℕ) (k : ℕ) (out : List ℕ) → length (scattered m n row k out) ≡ length out
  length-scattered row zero out = refl
  length-scattered row (suc k) out = length-spread (row k) (row_start m k) (scattered m n row k out) ∙ length-scattered row k out

  -- rows that are the same are written the same
  pub scattered_ext : (f g : ℕ → List ℕ) (k : ℕ) (out : List ℕ) → ((q : ℕ) → q < k → f q ≡ g q) → scattered m n f k out ≡ scattered m n g k out
  scattered_ext f g zero out e = refl
  scattered_ext f g (suc k) out e =
      ap₂ (λ (x y : List ℕ). spread m n x (row_start m k) y) (e k (omega arith)) (scattered_ext f g k out (λ q l. e q (omega arith)))

  -- ---- all rows
  module _ (row : ℕ → List ℕ) (wide : (q : ℕ) → length (row q) ≡ 239) (h : 0 < m) (out : List ℕ) (l : n ≤ length out) where
    steps : (k c : ℕ) → row_start m k + c * m ≡ file_byte_at m (record { table = k / m; row = k % m; column = c })
    steps k c = omega arith

    -- beyond n nothing changes
    scattered-beyond : (k i : ℕ) → n ≤ i → get_or (scattered m n row k out) i 0 ≡ get_or out i 0
    scattered-beyond zero i b = refl
    scattered-beyond (suc k) i b =
        spread_off (row k) (row_start m k) (scattered m n row k out) i (λ c a d e. omega arith) ∙ scattered-beyond k i b

    -- the row in which byte i of the file stands
    number : ℕ → ℕ
    number i = (spot_of m i).table * m + (spot_of m i).row

    -- row k, column c: the row's number is k
    numbered : (k c i : ℕ) → c < 239 → i ≡ file_byte_at m (record { table = k / m; row = k % m; column = c }) → number i ≡ k
    unfolding number
    numbered k c i a e =
        let s : Spot = record { table = k / m; row = k % m; column = c } in
        ap (λ (x : Spot). x.table * m + x.row) (ap (spot_of m) e ∙ (file_rule m h).spot_of_byte s (mod-lt k h) a) ∙ div-add-mod' k m

    scattered-at : (k i : ℕ) → i < n → number i < k → get_or (scattered m n row k out) i 0 ≡ get_or (row (number i)) (spot_of m i).column 0
    unfolding number
    scattered-at zero i a b = absurd (omega arith)
    scattered-at (suc k) i a b =
        let b' : number i < suc k = b in
        ⊎_elim
        (λ (e : number i ≡ k).
        let t : k / m ≡ (spot_of m i).table = ap (λ (x : ℕ). x / m) (sym e) ∙ digits_div (spot_of m i).table (mod-lt i h) in
        let r : k % m ≡ (spot_of m i).row = ap (λ (x : ℕ). x % m) (sym e) ∙ digits_mod (spot_of m i).table (mod-lt i h) in
        let c : (spot_of m i).column < 239 = (file_rule m h).column-below i in
        spread_in (row k) (row_start m k) (scattered m n row k out) (spot_of m i).column i h (omega (arith, wide k))
        (sym
        (steps k (spot_of m i).column
        ∙ ap₂ (λ (x y : ℕ). file_byte_at m (record { table = x; row = y; column = (spot_of m i).column })) t r ∙ (file_rule m h).byte_of_spot i)) a
        (omega (arith, length-scattered row k out))
        ∙ ap (λ (q : ℕ). get_or (row q) (spot_of m i).column 0) (sym e))
        (λ (e : number i < k).
        spread_off (row k) (row_start m k) (scattered m n row k out) i
        (λ c u v d. let w : number i ≡ k = numbered k c i (omega (arith, wide k)) (d ∙ steps k c) in omega arith)
        ∙ scattered-at k i a e)
        (eq-or-lt_of_le (le_of_suc-le-suc b'))

-- all rows of t tables, which stand end to end: the file's first n bytes, and what the output held behind them
pub scattered-all : (m n t : ℕ) (sent out : List ℕ) → 0 < m → n ≤ 239 * m * t → n ≤ length out
    → scattered m n (λ q. listed (λ c. get_or sent (q * 255 + c) 0) 239 0) (m * t) out ≡ undone 0 m sent n 0 ++ drop n out
unfolding number
scattered-all m n t sent out h f l =
    let row : ℕ → List ℕ = λ q. listed (λ c. get_or sent (q * 255 + c) 0) 239 0 in
    let wide : (q : ℕ) → length (row q) ≡ 239 = λ q. length-listed (λ c. get_or sent (q * 255 + c) 0) 239 0 in
    let done : List ℕ = scattered m n row (m * t) out in
    let u : length (undone 0 m sent n 0) ≡ n = length-listed (read_back 0 m sent) n 0 in
    let v : length done ≡ length out = length-scattered m n row (m * t) out in
    ext_get_or 0 done (undone 0 m sent n 0 ++ drop n out) (v ∙ sym (length-append (undone 0 m sent n 0) (drop n out) ∙ omega (arith, length-drop n out)))
    (λ i k. ⊎_elim
    (λ (b : n ≤ i).
    let z : n + (i - n) ≡ i = omega arith in
    let y : length (undone 0 m sent n 0) + (i - n) ≡ i = omega arith in
    scattered-beyond m n row wide h out l (m * t) i b
    ∙ ap (λ (x : ℕ). get_or out x 0) (sym z) ∙ sym (get_or-drop n out (i - n) 0) ∙ sym (get_or-append-add (undone 0 m sent n 0) (drop n out) (i - n) 0)
    ∙ ap (λ (x : ℕ). get_or (undone 0 m sent n 0 ++ drop n out) x 0) y)
    (λ (b : i < n).
    let g : (spot_of m i).table < t = table_below m 239 (file_byte_at m) (spot_of m) h (zero-lt-suc 238) (file_rule m h) t i (omega arith) in
    let q : (spot_of m i).table * m + (spot_of m i).row < m * t = omega (arith, digits_lt g (mod-lt i h), mul_comm t m) in
    scattered-at m n row wide h out l (m * t) i b q
    ∙ get_or-listed_0 (λ c. get_or sent (((spot_of m i).table * m + (spot_of m i).row) * 255 + c) 0) 239 (spot_of m i).column 0 ((file_rule m h).column-below i)
    ∙ sym (get_or-listed_0 (read_back 0 m sent) n i 0 b)
    ∙ sym (get_or-append (undone 0 m sent n 0) (drop n out) 0 i (omega arith)))
    (le_or_lt n i))

-- ---- the loop over a row: what is left to write makes what the whole row makes
pub spread-step : (m n : ℕ) (f : ℕ → ℕ) (k c p : ℕ) (out out' : List ℕ) → c < k → out' ≡ set_below n out p (f c)
    → spread m n (listed f (k - (c + 1)) (c + 1)) (p + m) out' ≡ spread m n (listed f (k - c) c) p out
spread-step m n f k c p out out' h e =
    let d : suc (k - (c + 1)) ≡ k - c = omega arith in
    let b : c + 1 ≡ suc c = omega arith in
    ap₂ (λ (x : ℕ) (y : List ℕ). spread m n (listed f (k - (c + 1)) x) (p + m) y) b e ∙ ap (λ (x : ℕ). spread m n (listed f x c) p out) d

pub spread_end : (m n : ℕ) (f : ℕ → ℕ) (k c p : ℕ) (out : List ℕ) → k ≤ c → out ≡ spread m n (listed f (k - c) c) p out
spread_end m n f k c p out h = let d : 0 ≡ k - c = omega arith in ap (λ (x : ℕ). spread m n (listed f x c) p out) d

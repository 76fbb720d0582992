-- The sum of entries for the half bytes of a number: in parts, and, in a table that keeps the rule, the register after these half bytes.
-- Assumes nothing.
use mathlib.Core.Path.{◌≡◌, refl, sym, ap, ap₂, ◌∙◌}
use mathlib.Core.List.{List}
use Prim.Native.Nat.{ℕ, zero, suc, ◌+◌, ◌*◌, ◌/◌, ◌%◌, ◌^◌, ◌<◌, ◌≤◌}
use native.Mathlib.Nat.{mod-lt, mod-mod, zero-div, zero-lt-suc, zero-add, add-zero, div-one}
use native.Mathlib.Omega.{arith}
use lib.ListN.{get_or}
use lib.Pow.{field, mod-mod-pow, shr-shr}
use Rattle.ground.specs.Bits.{sum}
use Rattle.ground.proofs.Sums.{sum_assoc, sum_comm, sum_zero, zero_sum}
use Rattle.crc.specs.Crc.{bits}
use Rattle.crc.specs.Table.{effect, Rule, entries}
use Rattle.crc.proofs.Linear.{bits_none, bits-append, bits_split, bits_zero, bits-low}

four-more : (m : ℕ) → suc m * 4 ≡ m * 4 + 4
four-more m = omega arith

more-four : (m : ℕ) → suc m * 4 ≡ 4 + m * 4
more-four m = omega arith

-- ---- any table
module _ (t : List ℕ) where
  pub entries-append : (m n k v : ℕ) → entries t k (m + n) v ≡ sum (entries t k m v) (entries t (k + m) n (v / 2 ^ (m * 4)))
  unfolding entries
  entries-append zero n k v =
      ap₂ (λ (i j : ℕ). entries t i j v) (sym (add-zero k)) (zero-add n)
      ∙ ap (entries t (k + 0) n) (sym (div-one v)) ∙ sym (zero_sum (entries t (k + 0) n (v / 1)))
  entries-append (suc m) n k v =
      let e : suc m + n ≡ suc (m + n) = omega arith in
      let p : k + 1 + m ≡ k + suc m = omega arith in
      let a : ℕ = get_or t (k * 16 + v % 16) 0 in
      ap (λ (i : ℕ). entries t k i v) e
      ∙ ap (sum a) (entries-append m n (k + 1) (v / 16)
      ∙ ap₂ (λ (i x : ℕ). sum (entries t (k + 1) m (v / 16)) (entries t i n x)) p (shr-shr v 4 (m * 4) ∙ ap (λ (i : ℕ). v / 2 ^ i) (sym (more-four m))))
      ∙ sym (sum_assoc a (entries t (k + 1) m (v / 16)) (entries t (k + suc m) n (v / 2 ^ (suc m * 4))))

  -- only the m low half bytes count
  pub entries-low : (m k u v : ℕ) → u % 2 ^ (m * 4) ≡ v % 2 ^ (m * 4) → entries t k m u ≡ entries t k m v
  unfolding entries
  entries-low zero k u v e = refl
  entries-low (suc m) k u v e =
      let f : u % 2 ^ (m * 4 + 4) ≡ v % 2 ^ (m * 4 + 4) = ap (λ (i : ℕ). u % 2 ^ i) (sym (four-more m)) ∙ e ∙ ap (λ (i : ℕ). v % 2 ^ i) (four-more m) in
      ap₂ (λ (x y : ℕ). sum (get_or t (k * 16 + x) 0) y)
      (sym (mod-mod-pow u (m * 4) 4) ∙ ap (λ (x : ℕ). x % 16) f ∙ mod-mod-pow v (m * 4) 4)
      (entries-low m (k + 1) (u / 16) (v / 16) (sym (field u (m * 4) 4) ∙ ap (λ (x : ℕ). x / 16) f ∙ field v (m * 4) 4))

-- ---- a table that keeps the rule
module _ (w g rows : ℕ) (t : List ℕ) (rule : Rule w g rows t) where
  -- a half byte more behind
  behind : (k r : ℕ) → bits w g (k * 4) (bits w g 4 r zero) zero ≡ bits w g ((k + 1) * 4) r zero
  behind k r =
      let e : 4 + k * 4 ≡ (k + 1) * 4 = omega arith in
      sym (bits-append w g 4 (k * 4) r zero ∙ ap (λ (x : ℕ). bits w g (k * 4) (bits w g 4 r x) zero) (zero-div (2 ^ (k * 4))))
      ∙ ap (λ (n : ℕ). bits w g n r zero) e

  row-right : (k v : ℕ) → k < rows → get_or t (k * 16 + v % 16) 0 ≡ bits w g (k * 4) (bits w g 4 zero v) zero
  unfolding effect
  row-right k v h =
      rule.entry k (v % 16) h (mod-lt v (zero-lt-suc 15))
      ∙ ap (λ (x : ℕ). bits w g (k * 4) x zero) (bits-low w g 4 zero (v % 16) v (mod-mod v 16))

  pub entries-right : (m k v : ℕ) → k + m ≤ rows → entries t k m v ≡ bits w g (k * 4) (bits w g (m * 4) zero v) zero
  unfolding entries
  entries-right zero k v h = sym (ap (λ (x : ℕ). bits w g (k * 4) x zero) (bits_none w g zero v) ∙ bits_zero w g (k * 4))
  entries-right (suc m) k v h =
      let above : ℕ = bits w g (m * 4) zero (v / 16) in
      ap₂ sum (row-right k v (omega arith)) (entries-right m (k + 1) (v / 16) (omega arith) ∙ sym (behind k above))
      ∙ sum_comm (bits w g (k * 4) (bits w g 4 zero v) zero) (bits w g (k * 4) (bits w g 4 above zero) zero)
      ∙ sym (bits_split w g (k * 4) (bits w g 4 above zero) (bits w g 4 zero v) zero)
      ∙ ap (λ (x : ℕ). bits w g (k * 4) x zero)
      (sym (bits_split w g 4 above zero v) ∙ ap (λ (x : ℕ). bits w g 4 x v) (sum_zero above)
      ∙ sym (bits-append w g (m * 4) 4 zero v) ∙ ap (λ (n : ℕ). bits w g n zero v) (sym (four-more m)))

  -- from the first row on: the m half bytes go into the register 0
  pub entries_zero : (m v : ℕ) → m ≤ rows → entries t 0 m v ≡ bits w g (m * 4) zero v
  unfolding bits
  entries_zero m v h = entries-right m 0 v (omega arith)

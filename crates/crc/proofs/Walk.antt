-- The walk over a table: its turns, and that it is the register's own walk where the table keeps the rule.
-- Assumes nothing.
use mathlib.Core.Path.{◌≡◌, refl, sym, ap, ap₂, ◌∙◌}
use mathlib.Core.List.{List, [], ◌∷◌}
use Prim.Native.Nat.{ℕ, zero, suc, ◌+◌, ◌*◌, ◌/◌, ◌%◌, ◌^◌, ◌<◌, ◌≤◌}
use native.Mathlib.Nat.{div-one, div-mul-le_self, zero-mul, zero-lt-suc}
use native.Mathlib.Omega.{arith}
use lib.Dec.{lit<, lit≤}
use lib.ListN.{length, take, drop, length-drop, take-append-drop, drop_of_length-le}
use lib.Seq.{drop-drop, length-take-le}
use Rattle.std.specs.List.{fold}
use Rattle.std.specs.Simd.{first_chunks}
use Rattle.std.proofs.lemmas.List.{take-take}
use Rattle.ground.specs.Bits.{sum}
use Rattle.crc.specs.Crc.{bits, feed}
use Rattle.crc.specs.Table.{Rule, number, entries, group_by, groups_by, feed_by}
use Rattle.crc.proofs.Linear.{bits-top_any, feed-none, feed-append}
use Rattle.crc.proofs.Numbers.{feed-bits}
use Rattle.crc.proofs.Entries.{entries_zero}

-- ---- any table: what the code folds over the groups of one size
module _ (w : ℕ) (t : List ℕ) where
  group_take : (n r : ℕ) (bs : List ℕ) → group_by w t n r (take n bs) ≡ group_by w t n r bs
  unfolding group_by
  group_take n r bs =
      let h : n ≤ n = omega arith in
      ap (λ (l : List ℕ). sum (entries t 0 (n * 2) (sum (r * 2 ^ (n * 8) / 2 ^ w) (number l))) (r * 2 ^ (n * 8) % 2 ^ w)) (take-take n n bs h)

  pub fold_groups : (n q r : ℕ) (bs : List ℕ) → fold (group_by w t n) r (first_chunks n q bs) ≡ groups_by w t n q r bs
  unfolding groups_by
  fold_groups n zero r bs = refl
  fold_groups n (suc q) r bs =
      ap (λ (x : ℕ). fold (group_by w t n) x (first_chunks n q (drop n bs))) (group_take n r bs) ∙ fold_groups n q (group_by w t n r bs) (drop n bs)

  fold_ones : (r : ℕ) (bs : List ℕ) → fold (λ x b. group_by w t 1 x (b ∷ [])) r bs ≡ groups_by w t 1 (length bs) r bs
  unfolding groups_by
  fold_ones r [] = refl
  fold_ones r (b ∷ bs) =
      ap (λ (x : ℕ). fold (λ y c. group_by w t 1 y (c ∷ [])) x bs) (group_take 1 r (b ∷ bs)) ∙ fold_ones (group_by w t 1 r (b ∷ bs)) bs

  -- the groups of the last size, one byte each
  pub fed_ones : (r a : ℕ) (bs : List ℕ) → a ≡ fold (λ x b. group_by w t 1 x (b ∷ [])) r bs → a ≡ feed_by w t (1 ∷ []) r bs
  unfolding feed_by
  fed_ones r a bs e = e ∙ fold_ones r bs ∙ ap (λ (q : ℕ). groups_by w t 1 q r bs) (sym (div-one (length bs)))

  -- the groups of a size, and then what is behind them
  pub fed_groups : (n : ℕ) (ns : List ℕ) (r s a : ℕ) (bs rest : List ℕ) (parts : List (List ℕ))
      → parts ≡ first_chunks n (length bs / n) bs → rest ≡ drop (length bs / n * n) bs
      → s ≡ fold (group_by w t n) r parts → a ≡ feed_by w t ns s rest → a ≡ feed_by w t (n ∷ ns) r bs
  unfolding feed_by
  fed_groups n ns r s a bs rest parts p q e f =
      f ∙ ap₂ (feed_by w t ns) (e ∙ ap (fold (group_by w t n) r) p ∙ fold_groups n (length bs / n) r bs) q

-- ---- a table that keeps the rule

-- sizes for which the rows suffice, and which leave nothing over
pub data Sizes (rows : ℕ) : List ℕ → Type 0 where
  last : 2 ≤ rows → Sizes rows (1 ∷ [])
  more : {n : ℕ} {ns : List ℕ} → 0 < n → n * 2 ≤ rows → Sizes rows ns → Sizes rows (n ∷ ns)

module _ (w g rows : ℕ) (t : List ℕ) (rule : Rule w g rows t) (wide : 0 < w) where
  pub group_right : (n r : ℕ) (bs : List ℕ) → 0 < n → n * 2 ≤ rows → n ≤ length bs → group_by w t n r bs ≡ feed w g r (take n bs)
  unfolding group_by
  group_right n r bs p l h =
      let x : ℕ = sum (r * 2 ^ (n * 8) / 2 ^ w) (number (take n bs)) in
      let e : n * 2 * 4 ≡ n * 8 = omega arith in
      ap (λ (y : ℕ). sum y (r * 2 ^ (n * 8) % 2 ^ w)) (entries_zero w g rows t rule (n * 2) x l ∙ ap (λ (m : ℕ). bits w g m zero x) e)
      ∙ sym (bits-top_any w g wide (n * 8) r (number (take n bs)) (omega arith))
      ∙ ap (λ (m : ℕ). bits w g (m * 8) r (number (take n bs))) (sym (length-take-le n bs h))
      ∙ sym (feed-bits w g r (take n bs))

  pub groups_right : (n q r : ℕ) (bs : List ℕ) → 0 < n → n * 2 ≤ rows → q * n ≤ length bs → feed w g (groups_by w t n q r bs) (drop (q * n) bs) ≡ feed w g r bs
  unfolding groups_by
  groups_right n zero r bs p l h = ap (λ (x : ℕ). feed w g r (drop x bs)) (zero-mul n)
  groups_right n (suc q) r bs p l h =
      let f : suc q * n ≡ n + q * n = omega arith in
      let enough : n ≤ length bs = omega arith in
      let rest : q * n ≤ length (drop n bs) = simp length-drop (omega arith) in
      ap (λ (y : List ℕ). feed w g (groups_by w t n q (group_by w t n r bs) (drop n bs)) y) (ap (λ (x : ℕ). drop x bs) f ∙ sym (drop-drop (q * n) n bs))
      ∙ groups_right n q (group_by w t n r bs) (drop n bs) p l rest
      ∙ ap (λ (x : ℕ). feed w g x (drop n bs)) (group_right n r bs p l enough)
      ∙ sym (feed-append w g r (take n bs) (drop n bs))
      ∙ ap (feed w g r) (take-append-drop n bs)

  pub feed_by_right : {ns : List ℕ} → Sizes rows ns → (r : ℕ) (bs : List ℕ) → feed_by w t ns r bs ≡ feed w g r bs
  unfolding feed_by
  feed_by_right (last l) r bs =
      let all : length bs ≤ length bs / 1 * 1 = omega arith in
      let none : drop (length bs / 1 * 1) bs ≡ [] = drop_of_length-le bs all in
      sym (ap (feed w g (groups_by w t 1 (length bs / 1) r bs)) none ∙ feed-none w g (groups_by w t 1 (length bs / 1) r bs))
      ∙ groups_right 1 (length bs / 1) r bs (zero-lt-suc 0) l (omega arith)
  feed_by_right (more {n} {ns} p l s) r bs =
      feed_by_right s (groups_by w t n (length bs / n) r bs) (drop (length bs / n * n) bs)
      ∙ groups_right n (length bs / n) r bs p l (div-mul-le_self (length bs) n)

-- CRC-32 with the sizes that the code takes
pub feed_by_table : (t : List ℕ) → Rule 32 0x04C11DB7 32 t → (r : ℕ) (bs : List ℕ) → feed_by 32 t (16 ∷ 4 ∷ 1 ∷ []) r bs ≡ feed 32 0x04C11DB7 r bs
feed_by_table t rule r bs =
    feed_by_right 32 0x04C11DB7 32 t rule (lit< tt)
    (more (lit< tt) (lit≤ tt) (more (lit< tt) (lit≤ tt) (last (lit≤ tt)))) r bs

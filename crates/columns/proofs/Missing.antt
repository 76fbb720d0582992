-- The bytes of a row that are lost (`Lacking`, specs/InnerBytes.antt): a single one is the sum of all others, since a coded row is nothing at 1; more of them are what is added at their
-- places, since nothing stands there. Assumes nothing.
use mathlib.Core.Path.{◌≡◌, refl, sym, ap, ap₂, subst, ◌∙◌}
use mathlib.Core.Logic.{⊎_elim}
use mathlib.Core.Bool.{cond}
use Rattle.std.proofs.lemmas.Bool.{cases_eq}
use Rattle.std.proofs.Common.{Some, None}
use Rattle.std.proofs.lemmas.Option.{none-some, same_Some}
use mathlib.Core.List.{List, ◌∷◌}
use Prim.Native.Nat.{ℕ, zero, suc, ◌+◌, ◌-◌, ◌<◌, ◌≤◌}
use native.Mathlib.Omega.{arith}
use lib.ListN.{length, get_or, set, take, length-set}
use lib.Seq.{ext_get_or, get_or-set_same, get_or-set_other, get_or-take}
use Rattle.ground.specs.Bits.{sum}
use Rattle.ground.proofs.Sums.{zero_sum, sum_cancel}
use Rattle.ground.proofs.Listed.{get_or-listed_0}
use Rattle.field.specs.Field.{product, expo}
use Rattle.field.proofs.Laws.{power_zero, product_one}
use Rattle.code.specs.Code.{Bytes}
use Rattle.code.specs.Search.{Repaired, remainder}
use Rattle.code.specs.Search.Repaired.{found, none}
use Rattle.code.specs.Restore.{restore_of}
use Rattle.code.specs.Value.{value}
use Rattle.code.proofs.Lists.{bytes_at_lem}
use Rattle.code.proofs.Weights.{expo_zero, expo-suc, one_product}
use Rattle.code.proofs.Values.{value_nil, value-byte, value-take, value_set, coded-values}
use Rattle.code.proofs.Division.{length-remainder, remainder-bytes}
use Rattle.code.proofs.Restored.{restore_found}
use Rattle.errata.specs.declared.Errata.{Errata}
use Rattle.errata.specs.Errata.{leaving}
use Rattle.errata.specs.Restoring.{falling_to, among, filling_for, filling_of}
use Rattle.errata.specs.InnerErrata.{entries, mended_by, Placed}
use Rattle.errata.proofs.Listing.{mended-on}
use Rattle.errata.proofs.Places.{falling-few, falling-below, not_among, among-few}
use Rattle.errata.proofs.Filled.{filling_many, filling_placed, filling_found, filling_none}
use Rattle.columns.specs.InnerBytes.{Lacking, Restores}

-- ---- the sum of all bytes is the row at 1

expo_one : (k : ℕ) → expo 1 k ≡ 1
expo_one zero = expo_zero 1
expo_one (suc k) = expo-suc 1 k ∙ product_one (expo 1 k) (omega (arith, expo_one k)) ∙ expo_one k

pub sum_first : (row : List ℕ) → 0 ≡ value (take 0 row) 1
sum_first row = sym (value_nil 1)

pub sum_more : (row : List ℕ) (i acc : ℕ) → i < length row → get_or row i 0 < 256 → acc ≡ value (take i row) 1 → sum acc (get_or row i 0) ≡ value (take (i + 1) row) 1
sum_more row i acc h b e =
    ap (λ (x : ℕ). sum x (get_or row i 0)) (e ∙ sym (one_product (value (take i row) 1) (value-byte (take i row) 1))) ∙ sym (value-take row i 1 h b)

-- ---- one byte is lost

module _ (row at s : List ℕ) (long : length row ≡ 255) (l : Lacking row at 1 s) where
  abbrev c : ℕ
  c = 254 - get_or at 0 0

  below : get_or at 0 0 < 255
  below = falling-below at 1 l.falling 0 (omega arith)

  sized : length s ≡ 255
  sized = l.fits.coded.sized

  byte : get_or s c 0 < 256
  byte = bytes_at_lem s l.fits.coded.bytes c

  -- the row differs there alone
  put_in : set row c (sum (get_or row c 0) (get_or s c 0)) ≡ s
  put_in =
      let v : ℕ = sum (get_or row c 0) (get_or s c 0) in
      ext_get_or 0 (set row c v) s (length-set row c v ∙ long ∙ sym sized)
      (λ i h.
      let b : i < 255 = omega (arith, length-set row c v) in
      ⊎_elim
      (λ (e : i ≡ c).
      ap (λ (x : ℕ). get_or (set row c v) x 0) e ∙ get_or-set_same row c v 0 (omega arith)
      ∙ ap (λ (x : ℕ). sum x (get_or s c 0)) (l.empty 0 (omega arith)) ∙ zero_sum (get_or s c 0) ∙ ap (λ (x : ℕ). get_or s x 0) (sym e))
      (λ (e : i ≡ c → ⊥).
      get_or-set_other row c i v 0 e
      ∙ sym (l.fits.known i b (not_among at 1 i (λ k h d. e (let z : k ≡ 0 = omega arith in let d' : get_or at 0 0 ≡ 254 - i = ap (λ (x : ℕ). get_or at x 0) (sym z) ∙ d in omega (arith, below))))))
      (cases_eq i c))

  pub one_lost : value row 1 ≡ get_or s c 0
  one_lost =
      let v : ℕ = get_or s c 0 in
      let k : ℕ = get_or at 0 0 in
      sum_cancel (value row 1) v
      (ap (sum (value row 1)) (sym (ap (product v) (expo_one k) ∙ one_product v byte))
      ∙ sym (value_set row c k v 1 (omega (arith, below)))
      ∙ ap₂ value put_in (sym power_zero) ∙ coded-values s l.fits.coded 0 (omega arith))

-- the first of the values is it
pub one_restores : (row at : List ℕ) (x : ℕ) (v : List ℕ) (n : ℕ) → length row ≡ 255 → n ≡ 1 → x ≡ value row 1 → Restores row at n (x ∷ v)
one_restores row at x v n long e d s l k h =
    let z : k ≡ 0 = omega arith in
    let l' : Lacking row at 1 s = subst (λ (x : ℕ). Lacking row at x s) e l in
    ap (λ (y : ℕ). get_or (x ∷ v) y 0) z ∙ d ∙ one_lost row at s long l' ∙ ap (λ (x : ℕ). get_or s (254 - get_or at x 0) 0) (sym z)

-- ---- what is added

-- the places are those that were given
filled-places : (r at : List ℕ) (n : ℕ) (a : Repaired) (e : Errata) → n ≤ 16 → Some e ≡ filling_for r at n a → (k : ℕ) → k < n → get_or e.at k 0 ≡ get_or at k 0
unfolding filling_for
filled-places r at n (found s) e few q k h =
    ap (λ (x : Errata). get_or x.at k 0) (same_Some _ _ q) ∙ get_or-listed_0 (λ k. get_or (take n at) k 0) 16 k 0 (omega arith) ∙ get_or-take n at k 0 h
filled-places r at n none e few q k h = absurd (none-some e (sym q))

found-same : (s t : List ℕ) → found s ≡ found t → s ≡ t
found-same s t e = cc

found_none : (s : List ℕ) → found s ≡ none → ⊥
found_none s e = let z : ◌≡◌ {A = ℕ} 0 1 = cc in omega arith

module _ (row at : List ℕ) (n : ℕ) (long : length row ≡ 255) (bytes : Bytes row) (room : length at ≡ 16) (s : List ℕ) (l : Lacking row at n s) where
  abbrev rest : List ℕ
  rest = remainder 239 row

  rest_long : length (remainder 239 row) ≡ 16
  rest_long = length-remainder 239 row long

  rest_bytes : Bytes (remainder 239 row)
  rest_bytes = remainder-bytes 239 row bytes

  few : n ≤ 16
  few = falling-few at n l.falling

  restored_as : restore_of (among at n) row ≡ found s
  restored_as = restore_found (among at n) row s (among-few at n l.falling) l.fits

  -- something is filled in
  filled : None ≡ filling_of (remainder 239 row) at n → ⊥
  filled q = found_none s (sym restored_as ∙ filling_none (remainder 239 row) at n rest_long rest_bytes room l.falling row long bytes refl q)

  module _ (e : Errata) (is : Some e ≡ filling_of (remainder 239 row) at n) where
    many : e.n ≡ n
    many = filling_many (remainder 239 row) at n rest_long rest_bytes room l.falling e is

    placed : Placed e.n e.at
    placed = filling_placed (remainder 239 row) at n rest_long rest_bytes room l.falling e is

    row_is : s ≡ mended_by row (entries e.at) (entries e.values) e.n
    row_is =
        found-same s (mended_by row (entries e.at) (entries e.values) e.n)
        (sym restored_as ∙ filling_found (remainder 239 row) at n rest_long rest_bytes room l.falling row long bytes refl e is)

    places_are : (k : ℕ) → k < n → get_or e.at k 0 ≡ get_or at k 0
    unfolding filling_of
    places_are = filled-places (leaving (remainder 239 row)) at n (cond (falling_to at n) (restore_of (among at n) (leaving (remainder 239 row))) none) e few is

    filled-lost : (k : ℕ) → k < n → get_or e.values k 0 ≡ get_or s (254 - get_or at k 0) 0
    filled-lost k h =
        let b : k < e.n = omega (arith, many) in
        let q : get_or e.at k 0 ≡ get_or at k 0 = places_are k h in
        sym
        (ap₂ (λ (x : List ℕ) (y : ℕ). get_or x (254 - y) 0) row_is (sym q)
        ∙ mended-on row long (entries e.at) (entries e.values) e.n placed.below placed.apart k b
        ∙ ap (λ (y : ℕ). sum (get_or row (254 - y) 0) (get_or e.values k 0)) q
        ∙ ap (λ (x : ℕ). sum x (get_or e.values k 0)) (l.empty k h) ∙ zero_sum (get_or e.values k 0))

-- what was filled in; where nothing was, any values do, since there is no such row
pub filled_restores : (row at : List ℕ) (n : ℕ) (e : Errata) → length row ≡ 255 → Bytes row → length at ≡ 16 → Some e ≡ filling_of (remainder 239 row) at n → Restores row at n e.values
filled_restores row at n e long bytes room is s l k h = filled-lost row at n long bytes room s l e is k h

pub unfilled_restores : (row at : List ℕ) (n : ℕ) (v : List ℕ) → length row ≡ 255 → Bytes row → length at ≡ 16 → None ≡ filling_of (remainder 239 row) at n → Restores row at n v
unfilled_restores row at n v long bytes room is s l k h = absurd (filled row at n long bytes room s l is)

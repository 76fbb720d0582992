-- Which of two times comes first, field by field: the derived order says what the specification says.
-- Assumes nothing.
use mathlib.Core.Path.{◌≡◌, refl}
use mathlib.Core.Bool.{Bool, true, false, cond}
use Prim.Native.Nat.{ℕ}
use native.Mathlib.Omega.{arith}
use borrow.Author.Tests.{eqb-true, ltb-true}
use lib.Dec.{eqb, ltb}
use Rattle.std.specs.declared.cmp.Ordering.{Ordering}
use Rattle.std.specs.declared.cmp.Ordering.TheVariants.{Less, Equal, Greater}
use Rattle.calendar.specs.declared.Time.{Time}
use Rattle.calendar.specs.Calendar.{not_after}
use Rattle.std.specs.Prelude.{Option, Some}
use Rattle.std.specs.Ordering.{nat_cmp, partial_ordering_then, is_le, is_some_and}

module _ (x y : ℕ) where
  -- the two tests, where both cannot hold
  by_tests : (P : Bool → Bool → Type 0) → P true false → P false true → P false false → P (ltb x y) (eqb x y)
  by_tests P less same more = by (ltb x y) refl (eqb x y) refl
    where
      by : (l : Bool) → ltb x y ≡ l → (e : Bool) → eqb x y ≡ e → P l e
      by true l true e = let p = ltb-true x y l in let q = eqb-true x y e in absurd (omega arith)
      by true l false e = less
      by false l true e = same
      by false l false e = more

  -- a field that differs decides, else those behind it
  field : (o : Option Ordering) (rest : Bool) → is_some_and is_le o ≡ rest
      → is_some_and is_le (partial_ordering_then (Some (nat_cmp x y)) o) ≡ cond (eqb x y) rest (ltb x y)
  field o rest h =
      by_tests (λ l e. is_some_and is_le (partial_ordering_then (Some (cond l Less (cond e Equal Greater))) o) ≡ cond e rest l) refl h refl

  last : is_le (nat_cmp x y) ≡ cond (eqb x y) true (ltb x y)
  last = by_tests (λ l e. is_le (cond l Less (cond e Equal Greater)) ≡ cond e true l) refl refl refl

-- as `<=` is derived
abbrev pub derived : Time → Time → Option Ordering
derived a b =
    partial_ordering_then (Some (nat_cmp a.year b.year)) (partial_ordering_then (Some (nat_cmp a.month b.month))
    (partial_ordering_then (Some (nat_cmp a.day b.day)) (partial_ordering_then (Some (nat_cmp a.hour b.hour))
    (partial_ordering_then (Some (nat_cmp a.minute b.minute)) (Some (nat_cmp a.second b.second))))))

pub in_order : (a b : Time) → is_some_and is_le (derived a b) ≡ not_after a b
unfolding not_after
in_order a b =
    field a.year b.year _ _ (field a.month b.month _ _ (field a.day b.day _ _
    (field a.hour b.hour _ _ (field a.minute b.minute _ _ (last a.second b.second)))))

-- The laws of `same`: it says that two lists are equal.
-- Assumes nothing.
use mathlib.Core.Path.{◌≡◌, refl, sym, ap}
use mathlib.Core.Bool.{Bool, true, false}
use mathlib.Core.List.{List}
use Prim.Native.Nat.{ℕ}
use lib.ListN.{length}
use Rattle.std.proofs.Common.{rules}
use Rattle.std.specs.Bool.{Decides}
use Rattle.std.proofs.lemmas.Slice.Eq.{compares_Decides}
use Rattle.slices.specs.Slices.{same}

decides : (a b : List ℕ) → Decides (same a b) (a ≡ b)
decides = compares_Decides same (search rules)

pub same_equal : (a b : List ℕ) → same a b ≡ true → a ≡ b
same_equal a b = (decides a b).0

pub same_self : (a : List ℕ) → same a a ≡ true
same_self a = (decides a a).1 refl

pub same_differs : (a b : List ℕ) → (a ≡ b → ⊥) → same a b ≡ false
same_differs a b d = by (same a b) refl
  where
    by : (t : Bool) → same a b ≡ t → t ≡ false
    by true e = absurd (d (same_equal a b e))
    by false e = refl

-- lists of other lengths differ
pub same_lengths : (a b : List ℕ) → (length a ≡ length b → ⊥) → false ≡ same a b
same_lengths a b d = sym (same_differs a b (λ e. d (ap length e)))

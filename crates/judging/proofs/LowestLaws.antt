-- The lowest line that may not hold its attribute, line by line: what the lines before it leave says what all say.
-- Assumes nothing.
use mathlib.Core.Path.{◌≡◌, refl, sym, ap}
use mathlib.Core.Bool.{Bool, true, false, true≢false}
use mathlib.Core.List.{List, [], ◌∷◌}
use Prim.Native.Nat.{ℕ, zero, suc, ◌+◌, ◌≤◌}
use native.Mathlib.Numerals.{add-one}
use native.Mathlib.Omega.{arith}
use lib.ListN.{length, get_or, drop, drop_of_length-le}
use Rattle.attributes.specs.declared.Description.{Description}
use Rattle.attributes.specs.Rules.{rules, rules_of, placed, lowest}

fault_first : (bs : List Bool) (i : ℕ) → get_or bs i false ≡ false → lowest (drop i bs) ≡ 1
fault_first [] zero e = refl
fault_first [] (suc i) e = refl
fault_first (true ∷ bs) zero e = absurd (true≢false e)
fault_first (false ∷ bs) zero e = refl
fault_first (b ∷ bs) (suc i) e = fault_first bs i e

fits-first : (bs : List Bool) (i : ℕ) → get_or bs i false ≡ true → lowest (drop i bs) ≡ suc (lowest (drop (suc i) bs))
fits-first [] zero e = absurd (true≢false (sym e))
fits-first [] (suc i) e = absurd (true≢false (sym e))
fits-first (true ∷ bs) zero e = refl
fits-first (false ∷ bs) zero e = absurd (true≢false (sym e))
fits-first (b ∷ bs) (suc i) e = fits-first bs i e

-- the first i lines may hold what they hold
pub record Sound (bs : List Bool) (i : ℕ) : Type 0 where
  pub most : i ≤ 15
  pub left : lowest (drop i bs) + i ≡ lowest bs

pub sound_begin : (bs : List Bool) → Sound bs 0
sound_begin bs = record { most = omega arith; left = omega arith }

pub sound_fault : (bs : List Bool) (i : ℕ) → Sound bs i → get_or bs i false ≡ false → i + 1 ≡ lowest bs
sound_fault bs i s e = omega (arith, s.left, fault_first bs i e)

pub sound_more : (bs : List Bool) (i : ℕ) → Sound bs i → i + 1 ≤ 15 → get_or bs i false ≡ true → Sound bs (i + 1)
sound_more bs i s h e =
    let d : lowest (drop (suc i) bs) ≡ lowest (drop (i + 1) bs) = ap (λ (n : ℕ). lowest (drop n bs)) (sym (add-one i)) in
    record { most = h; left = omega (arith, s.left, d, fits-first bs i e) }

pub sound_end : (bs : List Bool) (i : ℕ) → length bs ≡ 15 → Sound bs i → 15 ≤ i → 16 ≡ lowest bs
sound_end bs i n s h =
    let m = s.most in
    omega (arith, s.left, ap lowest (drop_of_length-le bs {i = i} (omega arith)))

pub fifteen : (t : List ℕ) (d : Description) → length (rules t d) ≡ 15
unfolding rules rules_of placed
fifteen t d = refl

-- Two numbers, by cases; and a number's bytes.
-- Assumes nothing.
use mathlib.Core.Path.{◌≡◌, refl, sym, ap, ◌∙◌}
use mathlib.Core.Logic.{◌⊎◌, inl, inr}
use mathlib.Core.Bool.{Bool, true, false}
use Prim.Native.Nat.{ℕ, suc, ◌+◌, ◌*◌, ◌/◌, ◌^◌, ◌≤◌, ◌<◌}
use native.Mathlib.Nat.{eq-or-lt_of_le, le_of_suc-le-suc, div-div-eq-div-mul}
use native.Mathlib.Omega.{arith}
use lib.Pow.{pow-add}
use borrow.Author.Tests.{ltb-true, ltb-false, eqb-true, eqb-false}
use lib.Dec.{ltb, eqb}

pub below_suc : {k j : ℕ} → k < suc j → (k ≡ j) ⊎ (k < j)
below_suc h = eq-or-lt_of_le (le_of_suc-le-suc h)

-- a byte more at the end moves the others up
pub push_digit : (k x b : ℕ) → b < 256 → (x * 256 + b) / 2 ^ (suc k * 8) ≡ x / 2 ^ (k * 8)
push_digit k x b h =
    let e : suc k * 8 ≡ 8 + k * 8 = omega arith in
    let d : (x * 256 + b) / 256 ≡ x = omega arith in
    ap (λ (n : ℕ). (x * 256 + b) / 2 ^ n) e ∙ ap (λ (n : ℕ). (x * 256 + b) / n) (pow-add 2 8 (k * 8))
    ∙ sym (div-div-eq-div-mul (x * 256 + b) 256 (2 ^ (k * 8))) ∙ ap (λ (n : ℕ). n / 2 ^ (k * 8)) d

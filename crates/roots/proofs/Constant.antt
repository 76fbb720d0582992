-- The constant words have the powers of the coefficients' points in their bytes. Of each word it is computed that its first byte is the power of its number,
-- and each byte behind it the product of the one before and the first.
-- Assumes nothing.
use mathlib.Core.Path.{◌≡◌, ap, ap₂, ◌∙◌}
use mathlib.Core.Bool.{Bool, ◌&&◌}
use mathlib.Core.List.{List}
use Prim.Native.Nat.{ℕ, zero, suc, ◌+◌, ◌*◌, ◌<◌}
use native.Mathlib.Omega.{arith}
use lib.Dec.{T, eqb, eqb→eq}
use lib.ListN.{length, get_or}
use Rattle.ground.proofs.Sweep.{all, every, at, below, and_left, and_right}
use Rattle.field.specs.Field.{product, power}
use Rattle.field.proofs.Laws.{product-power}
use Rattle.words.specs.Words.{byte_at}

-- byte k + 1 is the product of byte k and the first
abbrev goes : ℕ → ℕ → Bool
goes w k = eqb (byte_at w (suc k)) (product (byte_at w k) (byte_at w 0))

abbrev pub is_point : ℕ → ℕ → Bool
is_point i w = eqb (byte_at w 0) (power (i + 1)) && all (goes w) 7

module _ (i w : ℕ) (t : T (is_point i w)) where
  first : byte_at w 0 ≡ power (i + 1)
  first = eqb→eq (byte_at w 0) (power (i + 1)) (and_left (eqb (byte_at w 0) (power (i + 1))) (all (goes w) 7) t)

  each : (k : ℕ) → k < 8 → byte_at w k ≡ power ((i + 1) * (k + 1))
  each zero h = let n : i + 1 ≡ (i + 1) * 1 = omega arith in first ∙ ap power n
  each (suc k) h =
      let n : (i + 1) * (k + 1) + (i + 1) ≡ (i + 1) * (suc k + 1) = omega arith in
      eqb→eq (byte_at w (suc k)) (product (byte_at w k) (byte_at w 0))
      (below (goes w) 7 (and_right (eqb (byte_at w 0) (power (i + 1))) (all (goes w) 7) t) k (omega arith))
      ∙ ap₂ product (each k (omega arith)) first
      ∙ product-power ((i + 1) * (k + 1)) (i + 1)
      ∙ ap power n

-- word i has the powers of point i + 1 at its bytes
pub record Points (t : List ℕ) : Type 0 where
  pub entry : (i k : ℕ) → i < 8 → k < 8 → byte_at (get_or t i 0) k ≡ power ((i + 1) * (k + 1))

pub rule : (t : List ℕ) → length t ≡ 8 → T (every is_point 0 t) → Points t
rule t size test = record { entry = λ i k h g. each i (get_or t i 0) (at is_point t test i (omega arith)) k g }

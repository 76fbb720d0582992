-- Bytes that are 0, compared with zeros. Assumes nothing.
use mathlib.Core.Path.{◌≡◌, refl, ap}
use mathlib.Core.Bool.{Bool, ◌&&◌}
use mathlib.Core.List.{List, [], ◌∷◌}
use Prim.Native.Nat.{ℕ, zero, suc, ◌≤◌}
use native.Mathlib.Omega.{arith}
use lib.Dec.{eqb}
use lib.ListN.{length, take, replicate}
use Rattle.slices.specs.Slices.{same}
use Rattle.columns.specs.Handing.{all_zero}

pub zero_same : (l : List ℕ) (n : ℕ) → length l ≤ n → same l (take (length l) (replicate n 0)) ≡ all_zero l
zero_same [] n h = refl
zero_same (x ∷ l) zero h = absurd (omega arith)
zero_same (x ∷ l) (suc n) h = ap (λ (b : Bool). eqb x 0 && b) (zero_same l n (omega arith))

-- What a refusal tells, as C's answer: it has one value at most, which makes its extra value.
-- Assumes nothing.
use mathlib.Core.Path.{◌≡◌, refl, ap}
use mathlib.Core.List.{List, [], ◌∷◌}
use Prim.Native.Nat.{ℕ, ◌+◌, ◌*◌, ◌≤◌}
use native.Mathlib.Omega.{arith}
use lib.ListN.{length, get_or}
use Rattle.refusals.specs.declared.Refusal.{Refusal}
use Rattle.refusals.specs.Refusals.{number_of, values_of, value_of}
use Rattle.refusals.specs.Told.{refused_as}
use Rattle.refusals.proofs.Told.{values_lone}
use Rattle.face.specs.Face.{value_in, answer_of}

lone_value : (l : List ℕ) → length l ≤ 1 → get_or l 0 0 ≡ value_in l
lone_value [] h = refl
lone_value (v ∷ []) h = refl
lone_value (n ∷ i ∷ more) h = absurd (omega arith)

pub refused-answer : (r : Refusal) → number_of r + 256 * value_of r ≡ answer_of (refused_as r)
refused-answer r = ap (λ (v : ℕ). number_of r + 256 * v) (lone_value (values_of r) (values_lone r))

-- Answers of Status that tell the same are the same: one value is read back as no empty slot, two as the number filled and the lowest empty.
-- Assumes nothing.
use mathlib.Core.Path.{◌≡◌, refl, ap}
use mathlib.Core.List.{List, [], ◌∷◌}
use Prim.Native.Nat.{ℕ}
use Rattle.refusals.proofs.Told.{answer_in, refused_back, told-apart}
use Rattle.standing.specs.declared.Standing.{Standing}
use Rattle.refusals.specs.declared.Refusal.{Refusal}
use Rattle.standing.specs.Told.{standing_told}
use Rattle.std.specs.Prelude.{Option, Some, None, Result, Ok, Err, option_to_list}

abbrev lowest_in : List ℕ → Option ℕ
lowest_in [] = None
lowest_in (i ∷ more) = Some i

abbrev filled_in : List ℕ → Result Standing Refusal
filled_in [] = Ok (record { filled = 0; lowest = None })
filled_in (n ∷ more) = Ok (record { filled = n; lowest = lowest_in more })

lowest_back : (o : Option ℕ) → lowest_in (option_to_list o) ≡ o
lowest_back None = refl
lowest_back (Some i) = refl

standing_back : (x : Result Standing Refusal) → answer_in filled_in Err (standing_told x) ≡ x
standing_back (Ok s) = ap (λ (o : Option ℕ). Ok (record { filled = s.filled; lowest = o })) (lowest_back s.lowest)
standing_back (Err r) = refused_back filled_in Err r

pub standing_apart : (x y : Result Standing Refusal) → standing_told x ≡ standing_told y → x ≡ y
standing_apart = told-apart standing_told (answer_in filled_in Err) standing_back

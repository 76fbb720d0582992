-- What one row leaves when the generator divides it, out of what all rows of a payload leave; and its syndromes, as the laws about lists have them.
-- Assumes nothing.
use mathlib.Core.Path.{◌≡◌, ap, ◌∙◌}
use mathlib.Core.List.{List}
use Prim.Native.Nat.{ℕ, ◌/◌, ◌≤◌}
use native.Mathlib.Nat.{min-eq_right}
use native.Mathlib.Omega.{arith}
use lib.ListN.{length, take}
use lib.Seq.{take_all}
use Rattle.code.specs.Search.{remainder}
use Rattle.field.specs.declared.Sixteen.{Sixteen}
use Rattle.errata.specs.InnerErrata.{Syndromes as Listed}
use Rattle.errata.specs.InnerValues.{list_of}
use Rattle.errata.proofs.Entries.{list_at}
use Rattle.terms.specs.Terms.{Syndromes}
use Rattle.encoding.specs.Encode.{remainders_of}
use Rattle.encoding.proofs.Feeding.{rest_there, rest_among}

pub rest_one : (row rests rest : List ℕ) → length row ≡ 255 → rests ≡ remainders_of row → rest ≡ take 16 rests → rest ≡ remainder 239 row
rest_one row rests rest long e d =
    let one : length row / 255 ≡ 1 = omega arith in
    let few : length row / 255 ≤ 15 = omega arith in
    d ∙ ap (take 16) e ∙ rest_among row 0 (omega (arith, min-eq_right few)) ∙ rest_there row 0 (omega arith) ∙ ap (remainder 239) (take_all 255 row (omega arith))

pub listed_syndromes : {rest : List ℕ} {s : Sixteen} → Syndromes rest s → Listed rest (list_of s)
listed_syndromes {rest} {s} is = record { entry = λ j h. list_at s j h ∙ is.entry j h }

-- Answers of packing that tell the same are the same: the length is read back from the one value.
-- Assumes nothing.
use mathlib.Core.Path.{◌≡◌, refl}
use mathlib.Core.List.{List}
use Prim.Native.Nat.{ℕ}
use lib.ListN.{get_or}
use Rattle.refusals.proofs.Told.{answer_in, refused_back, told-apart}
use Rattle.pack.specs.Told.{packed_told}
use Rattle.refusals.specs.declared.Refusal.{Refusal}
use Rattle.std.specs.Prelude.{Result}
use Rattle.std.specs.Prelude.{Ok, Err}

abbrev written_in : List ℕ → Result ℕ Refusal
written_in l = Ok (get_or l 0 0)

packed_back : (x : Result ℕ Refusal) → answer_in written_in Err (packed_told x) ≡ x
packed_back (Ok n) = refl
packed_back (Err r) = refused_back written_in Err r

pub packed_apart : (x y : Result ℕ Refusal) → packed_told x ≡ packed_told y → x ≡ y
packed_apart = told-apart packed_told (answer_in written_in Err) packed_back

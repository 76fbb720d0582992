-- Answers of offering that tell the same are the same: an even value is read back as Stored, an odd one as Repeat, and half of it as the bytes mended.
-- Assumes nothing.
use mathlib.Core.Path.{◌≡◌, ap₂}
use mathlib.Core.Bool.{cond}
use mathlib.Core.List.{List}
use Prim.Native.Nat.{ℕ, ◌+◌, ◌*◌, ◌/◌, ◌%◌}
use native.Mathlib.Omega.{arith}
use lib.Dec.{eqb}
use lib.ListN.{get_or}
use Rattle.refusals.proofs.Told.{answer_in, refused_back, told-apart}
use Rattle.record.specs.declared.Offered.{Offered}
use Rattle.record.specs.declared.Offered.TheVariants.{Stored, Repeat}
use Rattle.record.specs.Told.{offered_told}
use Rattle.refusals.specs.declared.Refusal.{Refusal}
use Rattle.std.specs.Prelude.{Ok, Err, Result}

abbrev accepted_in : List ℕ → Result Offered Refusal
accepted_in l = cond (eqb (get_or l 0 0 % 2) 0) (Ok (Stored (get_or l 0 0 / 2))) (Ok (Repeat (get_or l 0 0 / 2)))

halves : (m : ℕ) → (2 * m / 2 ≡ m) × (2 * m % 2 ≡ 0) × ((2 * m + 1) / 2 ≡ m) × ((2 * m + 1) % 2 ≡ 1)
halves m = (omega arith, omega arith, omega arith, omega arith)

offered_back : (x : Result Offered Refusal) → answer_in accepted_in Err (offered_told x) ≡ x
offered_back (Ok (Stored m)) = ap₂ (λ (t n : ℕ). cond (eqb t 0) (Ok (Stored n)) (Ok (Repeat n))) (halves m).1 (halves m).0
offered_back (Ok (Repeat m)) = ap₂ (λ (t n : ℕ). cond (eqb t 0) (Ok (Stored n)) (Ok (Repeat n))) (halves m).3 (halves m).2
offered_back (Err r) = refused_back accepted_in Err r

pub offered_apart : (x y : Result Offered Refusal) → offered_told x ≡ offered_told y → x ≡ y
offered_apart = told-apart offered_told (answer_in accepted_in Err) offered_back

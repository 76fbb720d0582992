-- Answers about descriptions that tell the same are the same: attributes are read back from their thirty numbers, a length from its one.
-- Assumes nothing.
use mathlib.Core.Path.{◌≡◌, refl, ap}
use mathlib.Core.List.{List}
use Prim.Native.Nat.{ℕ}
use lib.ListN.{get_or}
use Rattle.refusals.proofs.Told.{answer_in, refused_back, told-apart}
use Rattle.attributes.specs.Told.{described_told, composed_told}
use Rattle.listing.specs.Listing.{description_from}
use Rattle.listing.proofs.ListingLaws.{numbers_back}
use Rattle.refusals.specs.declared.Refusal.{Refusal}
use Rattle.attributes.specs.declared.Description.{Description}
use Rattle.std.specs.Prelude.{Result}
use Rattle.std.specs.Prelude.{Ok, Err}

abbrev given_in : List ℕ → Result Description Refusal
given_in l = Ok (description_from l)

described_back : (x : Result Description Refusal) → answer_in given_in Err (described_told x) ≡ x
described_back (Ok d) = ap Ok (numbers_back d)
described_back (Err r) = refused_back given_in Err r

pub described_apart : (x y : Result Description Refusal) → described_told x ≡ described_told y → x ≡ y
described_apart = told-apart described_told (answer_in given_in Err) described_back

abbrev written_in : List ℕ → Result ℕ Refusal
written_in l = Ok (get_or l 0 0)

composed_back : (x : Result ℕ Refusal) → answer_in written_in Err (composed_told x) ≡ x
composed_back (Ok n) = refl
composed_back (Err r) = refused_back written_in Err r

pub composed_apart : (x y : Result ℕ Refusal) → composed_told x ≡ composed_told y → x ≡ y
composed_apart = told-apart composed_told (answer_in written_in Err) composed_back

-- The numbers are put over thirty zeros, and read there.
-- Assumes nothing.
use mathlib.Core.Path.{ap, ◌∙◌}
use mathlib.Core.List.{List, ◌++◌}
use Prim.Native.Nat.{ℕ}
use lib.ListN.{drop}
use Rattle.code.proofs.Lists.{zeros}
use Rattle.listing.specs.Listing.{description_from}
use Rattle.listing.proofs.ListingLaws.{over_thirty}
use Rattle.listing.proofs.description_of.Goals as goal

pub returns : goal.returns
returns c =
    c.from_thirty.ensures ∙ ap (λ (l : List ℕ). description_from (l ++ drop c.min-n.result (zeros 30))) c.copy_from_slice.ensures.after
    ∙ over_thirty c.args.numbers.now c.min-n.result c.min-n.ensures

-- Of one row the first sixteen bytes of what all rows leave.
-- Assumes nothing.
use mathlib.Core.Path.{◌≡◌}
use lib.ListN.{length}
use borrow.Author.Rules.{rules}
use Rattle.solving.proofs.Rests.{rest_one}
use Rattle.solving.proofs.losses.rest_of.Goals as goal

pub returns : goal.returns
returns c =
    let long : length c.args.row ≡ 255 = search rules in
    rest_one _ _ _ long c.remainders.ensures c.copy_from_slice.ensures.after

-- Each attribute has its numbers; parts and times are put together of theirs.
-- Assumes nothing.
use lib.ListN.{get_or}
use Rattle.listing.specs.Listing.{description_from}
use Rattle.listing.proofs.from_thirty.Goals as goal

pub returns : goal.returns
unfolding description_from
returns c =
    let v = c.args.v in
    λ i. record {
      service = get_or v 0 0;
      mode = get_or v 1 0;
      resource = get_or v 2 0;
      update = get_or v 3 0;
      name = c.part.ensures i;
      kind = get_or v 6 0;
      title = c.part-2.ensures i;
      summary = c.part-3.ensures i;
      keywords = c.part-4.ensures i;
      charset = get_or v 13 0;
      path = c.part-5.ensures i;
      size = get_or v 16 0;
      begins = c.time_from.ensures i;
      ends = c.time_from-2.ensures i;
      delete = get_or v 29 0;
    }

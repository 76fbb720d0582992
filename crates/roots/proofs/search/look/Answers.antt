-- `roots::search::look` passes over a word in which there is nothing to keep.
-- Assumes nothing.
use Rattle.roots.proofs.Holding.{looking_none}
use Rattle.roots.proofs.search.look.Goals as goal

pub returns-then-has_none : goal.returns-then-has_none
returns-then-has_none c =
    record { sized = c.requires.0; held = looking_none c.args.w c.args.y c.args.e _ _ (c.has_none.ensures c.if-has_none.true) }

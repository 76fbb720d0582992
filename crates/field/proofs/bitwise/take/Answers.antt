-- `field::bitwise::take` adds a byte where the bit is 1 (`taken`).
-- Assumes nothing.
use borrow.Author.Rules.{rules}
use Rattle.field.proofs.Doubling.{taken}
use Rattle.field.proofs.bitwise.take.Goals as goal

pub returns : goal.returns
returns c = taken _ _ c.args.b c.args.i (search rules) (search rules) c.requires

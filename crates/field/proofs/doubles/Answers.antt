-- `field::doubles` doubles each byte of the word (`doubled`).
-- Assumes nothing.
use Rattle.field.proofs.Doubling.{doubled}
use Rattle.field.proofs.doubles.Goals as goal

pub returns : goal.returns
returns c = doubled c.args.w

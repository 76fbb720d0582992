-- `told` goes by the number.
-- Assumes nothing.
use mathlib.Core.Path.{sym}
use Rattle.repair.proofs.AllRows.{ended-broken, ended-mended}
use Rattle.repair.proofs.told.Goals as goal

pub returns-then-ended-lt15 : goal.returns-then-ended-lt15
returns-then-ended-lt15 c = sym (ended-broken c.args.ended c.if-ended-lt15.true)

pub returns : goal.returns
returns c = sym (ended-mended c.args.ended c.if-ended-lt15.false)

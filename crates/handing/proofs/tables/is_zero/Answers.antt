-- Bytes are 0 where they are as many zeros.
use mathlib.Core.Path.{◌∙◌}
use Rattle.handing.proofs.ZeroLaws.{zero_same}
use Rattle.handing.proofs.tables.is_zero.Goals as goal

pub returns : goal.returns
returns c = c.same.ensures ∙ zero_same c.args.bytes.now 239 c.requires

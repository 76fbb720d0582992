-- Where there are 239 bytes for each of the m rows behind it, the whole row stands in the file (`columns_full`).
use native.Mathlib.Omega.{arith}
use Rattle.layout.proofs.Spans.{columns_full}
use Rattle.layout.proofs.columns_within.Goals as goal

pub returns-then-m-left : goal.returns-then-m-left
returns-then-m-left c = columns_full _ _ _ (omega (arith, c.if-m-eq0.false)) (omega (arith, c.if-m-left.true, c.saturating_sub-left.ensures))

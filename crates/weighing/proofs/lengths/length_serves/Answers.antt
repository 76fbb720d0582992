-- The range of the length, and then the count of slots that it gives.
-- Assumes nothing.
use mathlib.Core.Path.{ap, ◌∙◌}
use Prim.Native.Nat.{ℕ}
use lib.Dec.{eqb}
use Rattle.columns.proofs.LengthLaws.{serves-none, serves_much, serves-count}
use Rattle.weighing.proofs.lengths.length_serves.Goals as goal

pub returns-then-n-eq0 : goal.returns-then-n-eq0
returns-then-n-eq0 c = serves-none _ _ c.if-n-eq0.true

pub returns-then-n-gt16777216 : goal.returns-then-n-gt16777216
returns-then-n-gt16777216 c = serves_much _ _ c.if-n-eq0.false c.if-n-gt16777216.true

pub returns : goal.returns
returns c =
    ap (λ (x : ℕ). eqb x c.args.p.count) c.over.ensures
    ∙ serves-count c.args.p c.args.n c.if-n-eq0.false c.if-n-gt16777216.false _ c.rows_of-sent.ensures

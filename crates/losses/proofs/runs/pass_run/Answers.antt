-- None is passed, or all before the quotient rounded up.
use Rattle.losses.proofs.Walking.{passed-none, passed}
use Rattle.losses.proofs.runs.pass_run.Goals as goal

pub returns-then-end-first : goal.returns-then-end-first
returns-then-end-first c = passed-none c.requires c.if-end-first.true

pub returns : goal.returns
returns c = passed c.requires c.if-end-first.false _ c.over.ensures

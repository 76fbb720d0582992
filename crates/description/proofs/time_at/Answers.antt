-- An empty part is told by zeros, any other is lent to the reader of times.
-- Assumes nothing.
use mathlib.Core.Path.{ap, ◌∙◌}
use Rattle.times.specs.Written.{time_in}
use Rattle.description.proofs.ValueLaws.{part_is, time_none, time_some}
use Rattle.description.proofs.time_at.Goals as goal

pub returns-then-p-eq0 : goal.returns-then-p-eq0
returns-then-p-eq0 c =
    let a = c.args in
    let z = c.default.ensures in
    (λ i. record {
      year = z.0 i;
      month = z.1.0 i;
      day = z.1.1.0 i;
      hour = z.1.1.1.0 i;
      minute = z.1.1.1.1.0 i;
      second = z.1.1.1.1.1 i;
    })
    ∙ time_none a.text.now a.p.at a.p.length c.if-p-eq0.true

pub returns : goal.returns
returns c =
    let a = c.args in
    c.time_in.ensures ∙ ap time_in (part_is a.text.now a.p.at a.p.length)
    ∙ time_some a.text.now a.p.at a.p.length c.requires c.if-p-eq0.false

-- The derived order goes field by field, as the specification does.
use mathlib.Core.Path.{◌∙◌}
use Rattle.calendar.proofs.OrderLaws.{in_order}
use Rattle.calendar.proofs.not_after.Goals as goal

pub returns : goal.returns
returns c =
    let t = c.args in
    c.le.ensures ∙ in_order t.a t.b

-- `places::holds` meets its contract: an unused place is meant by none; one in use is by its resource and its type.
-- Assumes nothing.
use mathlib.Core.Path.{sym, ◌∙◌}
use Rattle.places.specs.Places.{same_name}
use Rattle.places.proofs.Named.{in_use_lem, names_used}
use Rattle.places.proofs.holds.Goals as goal

pub returns-then-p-ne0 : goal.returns-then-p-ne0
unfolding same_name
returns-then-p-ne0 c =
    let p = c.args.p in
    c.eq.ensures ∙ sym (names_used p c.args.name (in_use_lem p c.if-p-ne0.true))

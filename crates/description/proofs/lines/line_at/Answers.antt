-- The label is compared first, then the end of the value is looked for behind it.
-- Assumes nothing.
use mathlib.Core.Path.{sym, ◌∙◌}
use Prim.Native.Nat.{◌+◌, ◌≤◌}
use lib.ListN.{length, drop}
use Rattle.description.specs.Inner.{Ending}
use Rattle.description.proofs.ValueLaws.{rest_is}
use Rattle.description.proofs.SplitLaws.{label-fits, step_line}
use Rattle.description.proofs.lines.line_at.Goals as goal

pub slice_bounds-ending-count : goal.slice_bounds-ending-count
slice_bounds-ending-count c = label-fits _ c.args.k _ c.requires (sym c.labelled.ensures ∙ c.if-not-labelled.false)

pub slice_bounds-ending-start : goal.slice_bounds-ending-start
slice_bounds-ending-start c = label-fits _ c.args.k _ c.requires (sym c.labelled.ensures ∙ c.if-not-labelled.false)

pub returns : goal.returns
returns c =
    let a = c.args in
    let labelled = sym c.labelled.ensures ∙ c.if-not-labelled.false in
    let three : a.at + 3 ≤ length a.text.now = label-fits _ a.k _ c.requires labelled in
    let end = c.in_ok-end.end in
    let ending : Ending (drop (a.at + 3) a.text.now) end.before end.length = rw (rest_is a.text.now (a.at + 3)) at c.in_ok-end.ensures in
    step_line a.text.now a.k a.at labelled three _ _ ending

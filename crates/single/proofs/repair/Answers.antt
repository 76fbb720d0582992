-- `repair` mends the row where it is held.
-- Assumes nothing.
use mathlib.Core.Path.{sym, ap, ◌∙◌}
use borrow.Author.Rules.{rules}
use Rattle.std.proofs.lemmas.Result.{err_from_is_err_and}
use Rattle.single.proofs.Laws.{with_row, mend_one}
use Rattle.single.proofs.repair.Goals as goal

pub returns-in_err-count : goal.returns-in_err-count
returns-in_err-count c =
    let p = err_from_is_err_and c.from_residual.result c.from_residual.ensures.1 in
    rw (p.1, p.2) (sym (ap (with_row _) c.in_err-count.was) ∙ mend_one _ _ _ (search rules) c.mend.ensures)

pub returns : goal.returns
returns c = sym (ap (with_row _) c.in_ok-count.was) ∙ mend_one _ _ _ (search rules) c.mend.ensures

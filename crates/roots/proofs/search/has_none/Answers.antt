-- `roots::search::has_none`: a byte that is y makes one of 0 in x, which the test sees.
-- Assumes nothing.
use mathlib.Core.Path.{refl, sym, ◌∙◌}
use Rattle.roots.proofs.Bytes.{none_is}
use borrow.Author.Tests.{eqb-true}
use Rattle.roots.proofs.search.has_none.Goals as goal

pub returns : goal.returns
returns c = λ t k h e. none_is c.args.w c.wide.result _ k c.wide.ensures.1 refl (eqb-true _ _ t) h (e ∙ sym c.wide.ensures.0)

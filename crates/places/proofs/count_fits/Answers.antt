-- `places::count_fits` meets its contract: a count that passes the first bound is judged by the second, as in the definition.
-- Assumes nothing.
use borrow.Author.Tests.{le-leb, lt-leb}
use Rattle.places.proofs.count_fits.Goals as goal

pub returns-then-count-ge1 : goal.returns-then-count-ge1
returns-then-count-ge1 c = simp (le-leb _ _ c.if-count-ge1.true)

pub returns-else-count-ge1 : goal.returns-else-count-ge1
returns-else-count-ge1 c = simp (lt-leb _ _ c.if-count-ge1.false)

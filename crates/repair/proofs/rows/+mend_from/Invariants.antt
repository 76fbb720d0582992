-- The measure is how many bytes there are.
use lib.ListN.{length}
use Rattle.repair.proofs.rows.+mend_from.Given as goal

abbrev pub decreases-mend_from : goal.decreases-mend_from
decreases-mend_from l = length l.rows.now

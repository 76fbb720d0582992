-- What taking a column asks is known of every column that is not gathered.
use Rattle.losses.proofs.Stepping.{stands-alone}
use Rattle.losses.proofs.runs.take_columns.Goals as goal

pub take_column-lost-requires : goal.take_column-lost-requires
take_column-lost-requires c = stands-alone c.loop-c.invariant c.requires.0 _ c.row_wise-by_rows.ensures c.loop-c-test.true

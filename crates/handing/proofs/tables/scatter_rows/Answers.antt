-- The row written is the next of those before which the first q + j were.
use native.Mathlib.Omega.{arith}
use Rattle.layout.proofs.Spans.{start_told, columns_told}
use Rattle.handing.proofs.RowLaws.{scattering_next}
use Rattle.handing.proofs.tables.scatter_rows.Goals as goal

pub loop-j-preserved : goal.loop-j-preserved
loop-j-preserved c =
    let r = c.requires.0 in
    let start = start_told _ _ _ (omega arith) c.row_start-p.ensures in
    scattering_next _ _ _ _ _ _ _ _ _ c.loop-j.invariant c.loop-j-test.true _ start _ (c.scatter_row.ensures c.args.n (columns_told _ _ _ _ r.some c.columns_within-k.ensures))

-- Nothing is lost of the row; or what is lost of it is restored, and put where it belongs.
-- Assumes nothing.
use native.Mathlib.Omega.{arith}
use Rattle.layout.proofs.Spans.{start_told}
use Rattle.columns.proofs.Standings.{base_few}
use Rattle.columns.proofs.Recovering.{came_few, came_below, row-whole, row_done}
use Rattle.restoring.proofs.lost.restore_row.Goals as goal

pub returns-then-lost-eq0 : goal.returns-then-lost-eq0
returns-then-lost-eq0 c =
    row-whole c.args.p c.args.store.now c.args.n c.requires.0 c.args.q c.requires.1 c.gather-came.result c.gather-came.ensures c.if-lost-eq0.true c.args.out.now

pub put_lost-requires : goal.put_lost-requires
put_lost-requires c =
    let w = c.requires.0 in
    let r = c.gather-came in (
      came_few c.args.p c.args.store.now c.args.n w c.args.q c.requires.1 r.result r.ensures,
      came_below c.args.p c.args.store.now c.args.n w c.args.q c.requires.1 r.result r.ensures,
      w.rows-most,
      omega (arith, base_few c.args.p.rows c.args.n w.rows c.args.q w.rows-most c.requires.1, w.most),
      c.requires.2,
    )

pub returns : goal.returns
returns c =
    let r = c.gather-came in
    row_done c.args.p c.args.store.now c.args.n c.requires.0 c.args.q c.requires.1 r.result r.ensures _ c.args.out.now _
    c.lost_values-values.ensures _ (start_told _ _ _ (omega arith) c.row_start-base.ensures) c.requires.2 c.put_lost.ensures

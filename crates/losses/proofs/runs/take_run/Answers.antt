-- The columns that stand in slot k are lost where it has no bytes (`run-lost`); else they are copied, and passed over behind its last byte (`run_came`).
use native.Mathlib.Omega.{arith}
use Rattle.losses.proofs.Gathering.{gathered-few, begins_walk, run-lost, run_came, run_inside, least}
use Rattle.losses.proofs.runs.take_run.Goals as goal

pub note_run-column-requires : goal.note_run-column-requires
note_run-column-requires c =
    let b = c.requires in
    (b.gathered.told.sized, gathered-few b.gathered, begins_walk b (omega arith) _ (least c.lesser-end.ensures).right)

pub overflow_add-result : goal.overflow_add-result
overflow_add-result c = omega (arith, gathered-few c.requires.gathered, c.note_run-column.ensures.reached.within)

pub returns-then-empty : goal.returns-then-empty
returns-then-empty c =
    run-lost c.requires c.held-n.ensures (least c.lesser-end.ensures) (omega (arith, c.if-empty.true)) _ _ c.note_run-column.ensures

pub copy_run-behind-requires : goal.copy_run-behind-requires
copy_run-behind-requires c =
    let b = c.requires in (
      b.gathered.part.sized,
      begins_walk b (omega arith) _ (least c.lesser.ensures).right,
      run_inside b c.held-n.ensures (least c.lesser-end.ensures) c.if-empty.false (least c.lesser.ensures),
    )

pub returns : goal.returns
returns c =
    run_came c.requires c.held-n.ensures (least c.lesser-end.ensures) c.if-empty.false (least c.lesser.ensures)
    _ _ c.copy_run-behind.ensures _ c.pass_run-column.ensures

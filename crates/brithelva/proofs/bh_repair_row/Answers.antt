-- The row that was repaired is put, and its count is the value; a refusal is answered.
use mathlib.Core.Path.{sym, ◌∙◌}
use Rattle.face.proofs.SayLaws.{repair_put, repair_refused}
use Rattle.brithelva.proofs.bh_repair_row.Goals as goal

pub returns-in-Ok : goal.returns-in-Ok
returns-in-Ok c = repair_put _ _ _ _ _ _ (sym c.repair_row.ensures ∙ c.in-Ok.is) c.put.ensures c.with_value.ensures

pub returns-in-Err : goal.returns-in-Err
returns-in-Err c = repair_refused _ _ _ _ (sym c.repair_row.ensures ∙ c.in-Err.is) c.refused.ensures

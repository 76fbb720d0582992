-- Bytes that are no record are refused; else the record in them is closed and put back.
use mathlib.Core.Path.{refl}
use Rattle.face.proofs.HoldLaws.{close_bad}
use Rattle.face.proofs.PutBack.{close_put_back}
use Rattle.brithelva.proofs.bh_close.Goals as goal

pub returns-then-held-ne-RECORD : goal.returns-then-held-ne-RECORD
returns-then-held-ne-RECORD c = close_bad _ _ _ _ c.if-held-ne-RECORD.true refl

pub put_kept-requires : goal.put_kept-requires
put_kept-requires c = c.if-held-ne-RECORD.false

pub returns : goal.returns
returns c = close_put_back _ _ c.if-held-ne-RECORD.false _ c.record_in.ensures _ (λ i. (c.type_inv.held i).fits) _ _ _ c.close-kept.ensures c.put_kept.ensures

-- Bytes that are no record are refused; else the record in them is opened and put back.
use mathlib.Core.Path.{refl}
use Rattle.face.proofs.HoldLaws.{open_bad}
use Rattle.face.proofs.PutBack.{open_put_back}
use Rattle.brithelva.proofs.bh_open_as.Goals as goal

pub returns-then-held-ne-RECORD : goal.returns-then-held-ne-RECORD
returns-then-held-ne-RECORD c = open_bad _ _ _ _ _ c.if-held-ne-RECORD.true refl

pub put_kept-requires : goal.put_kept-requires
put_kept-requires c = c.if-held-ne-RECORD.false

pub returns : goal.returns
returns c = open_put_back _ _ c.if-held-ne-RECORD.false _ c.record_in.ensures _ (λ i. (c.type_inv.held i).fits) _ _ _ _ _ c.open-kept.ensures c.put_kept.ensures

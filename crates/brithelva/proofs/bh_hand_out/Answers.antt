-- Bytes that are no record are refused; else the file is handed out from the record in them.
use mathlib.Core.Path.{refl}
use native.Mathlib.Omega.{arith}
use Rattle.face.proofs.HoldLaws.{hand_bad, hand_says_lem}
use Rattle.brithelva.proofs.bh_hand_out.Goals as goal

pub returns-then-held-ne-RECORD : goal.returns-then-held-ne-RECORD
returns-then-held-ne-RECORD c = hand_bad _ _ _ _ _ _ c.if-held-ne-RECORD.true refl

pub shape_of-out : goal.shape_of-out
shape_of-out c = omega arith

pub returns : goal.returns
returns c =
    hand_says_lem _ _ _ _ _ _ _ _ _ c.if-held-ne-RECORD.false c.record_in-before.ensures c.hand_out-verdict.ensures.0
    c.hand_out-verdict.ensures.1 c.verdict_of.ensures

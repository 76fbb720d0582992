-- Bytes that are no record are refused; else the resource is looked up in the record in them, whose counts fit an answer.
use mathlib.Core.Path.{refl, sym, ◌∙◌}
use Rattle.face.proofs.StatusLaws.{status_bad, status_says_lem, standing_fits}
use Rattle.answers.proofs.Words.{fits_word}
use Rattle.brithelva.proofs.bh_status.Goals as goal

pub returns-then-held-ne-RECORD : goal.returns-then-held-ne-RECORD
returns-then-held-ne-RECORD c = status_bad _ _ _ _ c.if-held-ne-RECORD.true refl

pub returns : goal.returns
returns c = status_says_lem _ _ _ _ _ _ c.if-held-ne-RECORD.false c.record_in.ensures c.status-standing.ensures (c.standing_as.ensures ∙ sym (fits_word (standing_fits _ _ _ _ c.status-standing.ensures)))

-- Three bytes are compared with the label; fewer cannot be one.
-- Assumes nothing.
use Rattle.description.proofs.ValueLaws.{label-short}
use Rattle.description.proofs.lines.labelled.Goals as goal

pub returns-then-text-at-lt3 : goal.returns-then-text-at-lt3
returns-then-text-at-lt3 c = let a = c.args in label-short a.text.now a.k a.at c.requires c.if-text-at-lt3.true

-- Where there is no room nothing is written and 26 is answered; else the bytes stand at the start.
use mathlib.Core.Path.{refl}
use Rattle.face.proofs.SayLaws.{puts-short, puts-fits}
use Rattle.face.proofs.put.Goals as goal

pub returns-then-out-bytes : goal.returns-then-out-bytes
returns-then-out-bytes c = puts-short _ _ _ c.if-out-bytes.true refl

pub returns : goal.returns
returns c = puts-fits _ _ _ c.if-out-bytes.false c.copy_in.ensures

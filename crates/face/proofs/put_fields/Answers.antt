-- Where there is no room nothing is written and 26 is answered; else the ten numbers stand at the front.
use mathlib.Core.Path.{refl, sym}
use Rattle.packet.specs.Told.{field_list}
use Rattle.ground.proofs.Writing.{sets-front}
use Rattle.face.proofs.SayLaws.{puts-short, puts-fits}
use Rattle.face.proofs.put_fields.Goals as goal

pub returns-in_default : goal.returns-in_default
returns-in_default c = puts-short _ _ _ c.in_default.ensures.cases refl

pub returns : goal.returns
returns c =
    let room = c.in-Some.ensures.cases.enough in
    rw c.edition_of.ensures (puts-fits _ _ _ room (sym (sets-front c.args.out.now (field_list c.args.f) room)))

-- `roots::search::note`: what differs, or is too far on, is not kept; where sixteen are held nothing changes; else there is one more.
-- Assumes nothing.
use mathlib.Core.Path.{◌∙◌}
use mathlib.Core.Bool.{◌&&◌}
use native.Mathlib.Omega.{arith}
use lib.Dec.{eqb, ltb}
use lib.ListN.{length-set}
use Rattle.roots.proofs.Holding.{held-full, held_more, passes}
use Rattle.roots.proofs.search.note.Goals as goal

pub returns-then-n-ge16 : goal.returns-then-n-ge16
returns-then-n-ge16 c =
    let a = c.args in
    record { sized = c.requires; held = λ l h. held-full h (eqb a.x a.y && ltb a.e 255) a.e (omega arith) }

pub returns : goal.returns
returns c =
    let a = c.args in
    record { sized = length-set a.at.now a.n a.e ∙ c.requires; held = λ l h. held_more h _ a.e (passes a.x a.y a.e c.if-x-y.false (omega arith)) (omega arith) }

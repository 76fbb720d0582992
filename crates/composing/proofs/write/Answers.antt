-- The fault comes first, then the room, and where both let it pass, all lines are written.
use mathlib.Core.Path.{sym, ◌∙◌}
use native.Mathlib.Omega.{arith}
use borrow.Author.Tests.{ltb-false}
use lib.ListN.{length}
use Rattle.composing.specs.Inner.{pieces, size_by}
use Rattle.composing.proofs.ComposeLaws.{all_placed, fault_first, room_next, lines_last}
use Rattle.composing.proofs.write.Goals as goal

pub returns-then-fault-le15 : goal.returns-then-fault-le15
returns-then-fault-le15 c =
    let a = c.args in
    let f = c.lowest_fault-fault in
    fault_first a.text.now a.d a.out.now f.result f.ensures (omega arith)

pub returns-then-lacks_room : goal.returns-then-lacks_room
returns-then-lacks_room c =
    let a = c.args in
    let f = c.lowest_fault-fault in
    let r = c.lacks_room in
    room_next a.text.now a.d a.out.now f.result f.ensures (omega arith) r.result r.ensures c.if-lacks_room.true

pub put_lines-requires : goal.put_lines-requires
put_lines-requires c =
    let a = c.args in
    let f = c.lowest_fault-fault in (
      all_placed a.text.now a.d (omega (arith, f.ensures)),
      ltb-false (length a.out.now) (size_by (pieces a.d)) (sym c.lacks_room.ensures ∙ c.if-lacks_room.false),
    )

pub returns : goal.returns
returns c =
    let a = c.args in
    let f = c.lowest_fault-fault in
    let r = c.lacks_room in
    let w = c.put_lines.ensures in
    lines_last a.text.now a.d a.out.now f.result f.ensures (omega arith) r.result r.ensures c.if-lacks_room.false _ _ w.0 w.1

-- The lines are found, their attributes read and judged; the lowest fault is told first, then what stands behind the lines.
-- Assumes nothing.
use native.Mathlib.Omega.{arith}
use Rattle.attributes.proofs.ReadLaws.{lines_fifteen}
use Rattle.description.proofs.AnswerLaws.{says_line, says_extra, says_attributes}
use Rattle.description.proofs.read.Goals as goal

pub overflow_add-found : goal.overflow_add-found
overflow_add-found c = omega (arith, c.split-found.ensures.counted, lines_fifteen c.args.text.now)

pub returns-then-fault-le15 : goal.returns-then-fault-le15
returns-then-fault-le15 c =
    let a = c.args in
    let s = c.split-found.ensures in
    says_line a.text.now _ _ _ _ _ (c.attributes_in-d.ensures _ s.parted) c.lowest_fault.ensures s.counted s.ended c.lower-fault.ensures c.if-fault-le15.true

pub returns-then-found-text : goal.returns-then-found-text
returns-then-found-text c =
    let a = c.args in
    let s = c.split-found.ensures in
    says_extra a.text.now _ _ _ _ _ (c.attributes_in-d.ensures _ s.parted) c.lowest_fault.ensures s.counted s.ended c.lower-fault.ensures c.if-fault-le15.false c.if-found-text.true

pub returns : goal.returns
returns c =
    let a = c.args in
    let s = c.split-found.ensures in
    says_attributes a.text.now _ _ _ _ _ (c.attributes_in-d.ensures _ s.parted) c.lowest_fault.ensures s.counted s.ended c.lower-fault.ensures c.if-fault-le15.false c.if-found-text.false

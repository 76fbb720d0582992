-- Where the slot has the byte it is copied (`taken_came`), where the slot ends before it is 0 (`taken-short`), and where the slot has no bytes it is lost (`taken-lost`).
use Rattle.losses.proofs.Stepping.{taken-lost, taken-short, taken_came, taken-inside}
use Rattle.losses.proofs.runs.take_column.Goals as goal

pub bounds-store-p : goal.bounds-store-p
bounds-store-p c = taken-inside c.held_by-n.ensures _ _ c.requires.ends c.if-s-n.true

pub returns-then-s-n : goal.returns-then-s-n
returns-then-s-n c = taken_came c.held_by-n.ensures _ _ _ _ _ c.requires.short c.if-s-n.true

pub returns-then-n-gt0 : goal.returns-then-n-gt0
returns-then-n-gt0 c = taken-short c.held_by-n.ensures _ _ _ _ _ c.requires.short c.if-n-gt0.true c.if-s-n.false

pub returns : goal.returns
returns c = taken-lost c.held_by-n.ensures _ _ _ _ _ c.requires.short c.if-n-gt0.false _ c.note.ensures

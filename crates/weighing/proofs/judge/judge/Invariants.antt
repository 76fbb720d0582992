-- One row a turn, to the first that lacks more than sixteen bytes. Invariant, `Judging`: what was found, and what the rows from q on say, is what all say.
use Prim.Native.Nat.{◌*◌}
use Rattle.contents.specs.Contents.{contents}
use Rattle.layout.specs.Layout.{tables_of}
use Rattle.weighing.proofs.JudgeLaws.{Judging}
use Rattle.weighing.proofs.judge.judge.Given as goal

abbrev pub invariant-loop-q : goal.invariant-loop-q
invariant-loop-q l = Judging l.p.rows l.p.slot (contents l.p l.store) l.n (l.p.rows * tables_of l.p.rows l.n) l.answer l.q

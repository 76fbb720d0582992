-- What each row adds, by what is wrong with it, and what that says of all.
use Prim.Native.Nat.{◌*◌, ◌<◌}
use native.Mathlib.Omega.{arith}
use mathlib.Core.Path.{sym, ap, ◌∙◌}
use Rattle.std.specs.Prelude.{Some}
use Rattle.layout.specs.Layout.{tables_of}
use Rattle.weighing.proofs.JudgeLaws.{judging_lost, judging_uncoded, judging_unclear, judging_none}
use Rattle.weighing.proofs.WeighLaws.{weighed_lost, weighed_end}
use Rattle.weighing.proofs.judge.judge.Goals.{in-Some-Uncoded, in-Some-Padding, in-None}
use Rattle.weighing.proofs.judge.judge.Goals as goal

pub returns-in-Some-Lost : goal.returns-in-Some-Lost
returns-in-Some-Lost c =
    let g = c.requires in
    weighed_lost _ _ _ g.1 g.0.serving.place.rows _
    (judging_lost _ _ _ _ _ _ _ c.loop-q.invariant (omega (arith, c.rows_of-q-end.ensures)) (ap Some (sym c.in-Some-Lost.field-0-is) ∙ sym c.in-Some-Lost.is ∙ c.fault_of.ensures))

pub loop-q-preserved : goal.loop-q-preserved
loop-q-preserved c =
    let below : c.loop-q.q < c.args.p.rows * tables_of c.args.p.rows c.args.n = omega (arith, c.rows_of-q-end.ensures) in
    let at = c.loop-q.invariant in
    elim c.match-fault_of.branch [
      | in-Some-Uncoded w ↦
          rw w.answer-is (judging_uncoded _ _ _ _ _ _ _ at below (ap Some (sym w.in-Some-Uncoded.field-0-is) ∙ sym w.in-Some-Uncoded.is ∙ c.fault_of.ensures))
      | in-Some-Padding w ↦
          rw (w.answer-is, w.and-answer.ensures)
          (judging_unclear _ _ _ _ _ _ _ at below (ap Some (sym w.in-Some-Padding.field-0-is) ∙ sym w.in-Some-Padding.is ∙ c.fault_of.ensures))
      | in-None w ↦ rw w.answer-is (judging_none _ _ _ _ _ _ _ at below (sym w.in-None.is ∙ c.fault_of.ensures))
    ]

pub returns : goal.returns
returns c =
    let g = c.requires in
    weighed_end _ _ _ g.1 g.0.serving.place.rows _ _ c.loop-q.invariant (omega (arith, c.rows_of-q-end.ensures))

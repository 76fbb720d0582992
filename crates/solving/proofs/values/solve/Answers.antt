-- After the last turn what is left is that after n turns; no values give all syndromes unless it is 0 (`turned_empty`).
-- Assumes nothing.
use mathlib.Core.Path.{◌≡◌, sym, ◌∙◌}
use Prim.Native.Nat.{◌<◌}
use native.Mathlib.Omega.{arith}
use Rattle.ground.proofs.Truth.{differ}
use Rattle.solving.proofs.Turning.{turning_start, turning_more, turning_end, turned_empty, turned_solved, turned_gives}
use Rattle.solving.proofs.values.solve.Goals as goal

pub loop-j-init : goal.loop-j-init
loop-j-init c = λ at x. turning_start at _ _ _ c.spread-gathered.ensures c.spread-gaps.ensures

pub loop-j-preserved : goal.loop-j-preserved
loop-j-preserved c =
    let more : c.loop-j.j < 16 = omega (arith, c.requires.few) in
    λ l x. turning_more (c.loop-j.invariant l x) more _ x _ (λ k h. c.spread-y.ensures k h ∙ c.at.ensures) _ c.add-gap.ensures
    _ _ _ c.products.ensures (λ k h. c.spread.ensures k h ∙ c.at-in-loop-j.ensures) c.add-gathered.ensures
    c.unit.ensures c.add.ensures c.products-gaps.ensures c.down.ensures c.products-in-loop-j.ensures c.add-left.ensures

pub returns-then-not-is_empty : goal.returns-then-not-is_empty
returns-then-not-is_empty c =
    let all : c.loop-j.j ≡ c.args.n = omega arith in
    let turned = turning_end (c.loop-j.invariant c.args.at c.locators-x.ensures) all in
    λ v gives. differ (sym (c.is_empty.ensures.1 (turned_empty turned v gives)) ∙ c.if-not-is_empty.true)

pub returns : goal.returns
returns c =
    let all : c.loop-j.j ≡ c.args.n = omega arith in
    let turned = turning_end (c.loop-j.invariant c.args.at c.locators-x.ensures) all in
    let divided = c.divide.ensures in (
      rw c.bytes.ensures (turned_solved turned c.requires divided),
      rw c.bytes.ensures (turned_gives turned c.requires divided (c.is_empty.ensures.0 c.if-not-is_empty.false)),
    )

-- `mend` looks at the length, takes what each row leaves, and mends the rows all or none.
-- Assumes nothing.
use mathlib.Core.Path.{◌≡◌}
use mathlib.Core.List.{List}
use Prim.Native.Nat.{ℕ, ◌%◌, ◌≤◌}
use lib.ListN.{length}
use Rattle.repair.proofs.AllRows.{mend_short, mend_long, mend_all, ends-few, all_resting}
use native.Mathlib.Omega.{arith}
use Rattle.repair.proofs.mend.Goals as goal

pub returns-then-rows-ne0 : goal.returns-then-rows-ne0
returns-then-rows-ne0 c = mend_short _ c.if-rows-ne0.true

pub returns-then-rows-gt-PROTECTED : goal.returns-then-rows-gt-PROTECTED
returns-then-rows-gt-PROTECTED c = mend_long _ c.if-rows-ne0.false c.if-rows-gt-PROTECTED.true

pub mend_from-requires : goal.mend_from-requires
mend_from-requires c = all_resting _ c.if-rows-ne0.false c.if-rows-gt-PROTECTED.false _ c.remainders-rests.ensures

pub told-requires : goal.told-requires
told-requires c =
    let b : List ℕ = c.args.rows.now in
    let l : length b ≤ 3825 = c.if-rows-gt-PROTECTED.false in
    let called = c.mend_from in
    omega (arith, ends-few b 0 called.result called.new.rows called.ensures)

pub returns : goal.returns
returns c =
    let b : List ℕ = c.args.rows.now in
    let m : length b % 255 ≡ 0 = c.if-rows-ne0.false in
    let l : length b ≤ 3825 = c.if-rows-gt-PROTECTED.false in
    mend_all b m l _ _ _ c.mend_from.ensures c.told.ensures

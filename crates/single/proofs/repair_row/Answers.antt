-- `repair_row` refuses another length than 255, and otherwise repairs the row by value.
-- Assumes nothing.
use mathlib.Core.Path.{◌≡◌, ap, sym, ◌∙◌}
use mathlib.Core.List.{List}
use Prim.Native.Nat.{ℕ}
use native.Mathlib.Omega.{arith}
use lib.ListN.{length}
use borrow.Author.Tests.{eq-eqb, ne_eqb}
use Rattle.ground.proofs.Writing.{sets-all}
use Rattle.code.proofs.Lists.{zeros, length_zeros}
use Rattle.single.specs.Single.{mend_of, repair_row_of}
use borrow.Author.Rules.{rules}
use Rattle.single.proofs.repair_row.Goals as goal

pub returns-then-row-ne255 : goal.returns-then-row-ne255
unfolding repair_row_of
returns-then-row-ne255 c = rw (ne_eqb (length c.args.row.now) 255 (search rules))

pub slice_bounds-copy_in-end : goal.slice_bounds-copy_in-end
slice_bounds-copy_in-end c = omega arith

pub returns : goal.returns
unfolding repair_row_of
returns c =
    let row : List ℕ = c.args.row.now in
    let e : length row ≡ 255 = search rules in
    rw (eq-eqb (length row) 255 e)
    (c.repair.ensures ∙ ap mend_of (c.copy_in.ensures ∙ sets-all (zeros 255) row (e ∙ sym (length_zeros 255))))

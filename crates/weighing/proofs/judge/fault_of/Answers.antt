-- What came is judged in the order of the faults; what is to be filled in says whether a coded row fits, and which.
-- Assumes nothing.
use mathlib.Core.Path.{sym, ◌∙◌}
use Prim.Native.Nat.{ℕ, ◌≤◌}
use native.Mathlib.Omega.{arith}
use borrow.Author.Rules.{rules}
use lib.ListN.{get_or}
use Rattle.code.specs.Code.{Bytes}
use Rattle.code.proofs.Lists.{bytes_of}
use Rattle.columns.proofs.RowLaws.{row-lacks, row-full, row-found, row-none}
use Rattle.weighing.proofs.JudgeLaws.{fault_lacks, fault_uncoded, fault_spoilt, fault_none}
use Rattle.weighing.proofs.judge.fault_of.Goals.{After-fill}
use Rattle.weighing.proofs.judge.fault_of.Goals as goal

-- what came of a row that lacks no more than can be filled in
module _ (c : After-fill) where
  bytes : Bytes c.gather-came.result.row
  bytes = let fit : (i : ℕ) → mir.Val.Fits mir.Syntax.w8 (get_or c.gather-came.result.row i 0) = λ i. search rules in bytes_of _ (λ i. (fit i).fits)

  few : c.gather-came.result.lost ≤ 16
  few = omega (arith, c.if-missing-gt16.false)

pub returns-then-missing-gt16 : goal.returns-then-missing-gt16
returns-then-missing-gt16 c = fault_lacks _ _ _ _ _ (row-lacks _ _ c.requires.fits _ _ c.gather-came.ensures (omega (arith, c.if-missing-gt16.true)))

pub returns-in_default : goal.returns-in_default
returns-in_default c =
    let p = (goal.at.returns-in_default c).After-fill in
    fault_uncoded _ _ _ _ _ (row-full _ _ c.requires.fits _ _ c.gather-came.ensures (few p))
    (row-none _ _ c.requires.fits _ _ c.gather-came.ensures (few p) (bytes p) c.in_default.ensures)

pub row_ends-requires : goal.row_ends-requires
row_ends-requires c = (c.requires.rows, omega arith, omega arith)

pub returns-then-not-row_ends : goal.returns-then-not-row_ends
returns-then-not-row_ends c =
    let p = (goal.at.returns-then-not-row_ends c).After-fill in
    fault_spoilt _ _ _ _ _ (row-full _ _ c.requires.fits _ _ c.gather-came.ensures (few p)) _
    (row-found _ _ c.requires.fits _ _ c.gather-came.ensures (few p) (bytes p) _ c.in-Some.ensures)
    (sym c.row_ends.ensures ∙ c.if-not-row_ends.true)

pub returns : goal.returns
returns c =
    let p = (goal.at.returns c).After-fill in
    fault_none _ _ _ _ _ (row-full _ _ c.requires.fits _ _ c.gather-came.ensures (few p)) _
    (row-found _ _ c.requires.fits _ _ c.gather-came.ensures (few p) (bytes p) _ c.in-Some.ensures)
    (sym c.row_ends.ensures ∙ c.if-not-row_ends.false)

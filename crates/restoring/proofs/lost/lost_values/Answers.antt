-- A single lost byte is the sum of the others; more of them are what is added at their places.
-- Assumes nothing.
use mathlib.Core.Path.{◌≡◌}
use Prim.Native.Nat.{ℕ}
use lib.ListN.{length, get_or}
use borrow.Author.Rules.{rules}
use Rattle.code.specs.Code.{Bytes}
use Rattle.code.proofs.Lists.{zeros, bytes_of}
use Rattle.columns.proofs.Missing.{one_restores, filled_restores, unfilled_restores}
use Rattle.restoring.proofs.lost.lost_values.Goals.{After-fill}
use Rattle.restoring.proofs.lost.lost_values.Goals as goal

-- a row of 255 bytes, with sixteen places
long : (c : After-fill) → length c.args.row ≡ 255
long c = search rules

bytes : (c : After-fill) → Bytes c.args.row
bytes c = let fit : (i : ℕ) → mir.Val.Fits mir.Syntax.w8 (get_or c.args.row i 0) = λ i. search rules in bytes_of _ (λ i. (fit i).fits)

room : (c : After-fill) → length c.args.at ≡ 16
room c = search rules

pub returns-then-n-eq1 : goal.returns-then-n-eq1
returns-then-n-eq1 c =
    let long : length c.args.row ≡ 255 = search rules in
    one_restores c.args.row c.args.at c.sum_of.result (zeros 15) c.args.n long c.if-n-eq1.true c.sum_of.ensures

pub returns-in-Some : goal.returns-in-Some
returns-in-Some c =
    let p = (goal.at.returns-in-Some c).After-fill in
    filled_restores _ _ _ _ (long p) (bytes p) (room p) c.in-Some.ensures

pub returns-in-None : goal.returns-in-None
returns-in-None c =
    let p = (goal.at.returns-in-None c).After-fill in
    unfilled_restores _ _ _ (zeros 16) (long p) (bytes p) (room p) c.in-None.ensures

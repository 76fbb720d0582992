-- `rows::mend_from`: what is found of the first row waits until the rows behind it are mended, so that all are mended or none.
-- Assumes nothing.
use mathlib.Core.Path.{◌≡◌, sym, ap, subst, ◌∙◌}
use mathlib.Core.List.{List}
use Prim.Native.Nat.{ℕ, ◌+◌, ◌-◌, ◌≤◌}
use native.Mathlib.Omega.{arith}
use lib.ListN.{length, take, drop, get_or, length-drop}
use borrow.Author.Rules.{rules}
use Rattle.code.specs.Code.{Bytes}
use Rattle.code.specs.Search.{remainder}
use Rattle.code.proofs.Lists.{bytes_of}
use Rattle.repair.specs.InnerRows.{Resting}
use Rattle.repair.proofs.AllRows.{no_rows, some-rows, row-broken, row_done, row-known, rows_behind, row-ordered, row-found, row-none, ended-few, behind-part, lent-behind, back_length}
use Rattle.repair.proofs.rows.+mend_from.Goals.{After-rest_in}
use Rattle.repair.proofs.rows.+mend_from.Goals as goal

-- the first row, and what it leaves
module _ (t : ℕ) (c : After-rest_in t) where
  some : 255 ≤ length c.args.rows.now
  some = some-rows _ _ _ c.requires c.if-rows-eq0.false

  bytes : Bytes c.args.rows.now
  bytes = bytes_of c.args.rows.now (λ i. let fit : mir.Val.Fits mir.Syntax.w8 (get_or c.args.rows.now i 0) = search rules in fit.fits)

  left : c.rest_in.result ≡ remainder 239 (take 255 c.args.rows.now)
  left = c.rest_in.ensures ∙ row-known _ _ _ c.requires some

pub returns-then-rows-eq0 : goal.returns-then-rows-eq0
returns-then-rows-eq0 t c = no_rows c.args.rows.now c.args.i c.if-rows-eq0.true

pub rest_in-requires : goal.rest_in-requires
rest_in-requires t c = omega (arith, c.requires.few, some-rows _ _ _ c.requires c.if-rows-eq0.false)

pub returns-in_default : goal.returns-in_default
returns-in_default t c =
    let p = (goal.at.returns-in_default t c).After-rest_in in
    row-broken c.args.rows.now c.args.i (some t p) (omega (arith, c.requires.few, some t p)) (row-none _ (some t p) (bytes t p) _ (left t p) c.in_default.ensures)

pub mend_from-ended-requires : goal.mend_from-ended-requires
mend_from-ended-requires t c =
    let p = (goal.at.mend_from-ended-requires t c).After-rest_in in
    let b : List ℕ = c.args.rows.now in
    let e : take (length b - 255) (drop 255 b) ≡ drop 255 b = behind-part b in (
      omega (arith, c.decreases, ap length e, length-drop 255 b, some t p),
      subst (λ (l : List ℕ). Resting l (c.args.i + 1) c.args.rests.now) (sym e) (rows_behind _ _ _ c.requires (some t p)),
    )

pub finish-requires : goal.finish-requires
finish-requires t c =
    let p = (goal.at.finish-requires t c).After-rest_in in
    let b : List ℕ = c.args.rows.now in
    let called = c.mend_from-ended in (
      (row-ordered b (some t p) (bytes t p) _ (left t p) _ c.in-Some.ensures).few,
      omega (arith, back_length b called.new.rows (some t p)),
      ended-few b _ _ c.requires (some t p) _ (behind-part b) called.result called.new.rows called.ensures,
    )

pub returns : goal.returns
returns t c =
    let p = (goal.at.returns t c).After-rest_in in
    let b : List ℕ = c.args.rows.now in
    let e = c.in-Some.e in
    let called = c.mend_from-ended in
    row_done b c.args.i (some t p) e.at e.values e.n (row-found b (some t p) (bytes t p) _ (left t p) e c.in-Some.ensures) called.result
    (take (length b - 255) (drop 255 b)) called.new.rows _ _ (behind-part b) called.ensures (lent-behind b called.new.rows (some t p)) c.finish.ensures

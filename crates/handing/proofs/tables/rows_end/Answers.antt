-- What each row adds, by whether it holds another byte than 0 beyond the file's end.
use mathlib.Core.Path.{◌≡◌, sym, ap, ◌∙◌}
use mathlib.Core.Bool.{true, false}
use mathlib.Core.List.{List}
use Prim.Native.Nat.{ℕ, ◌+◌, ◌*◌, ◌-◌}
use native.Mathlib.Omega.{arith}
use Rattle.layout.proofs.Spans.{start_told, columns_told}
use Rattle.contents.specs.Contents.{bytes_at}
use Rattle.contents.proofs.Bytes.{bytes-part}
use Rattle.columns.specs.Handing.{all_zero}
use Rattle.handing.proofs.RowLaws.{clearing_end, clearing_next, clearing_not}
use Rattle.handing.proofs.tables.rows_end.Goals as goal

pub returns-then-not-is_zero : goal.returns-then-not-is_zero
returns-then-not-is_zero c =
    let s : List ℕ = c.args.store.now in
    let from : ℕ = c.args.at + c.loop-j.j * 255 + c.columns_within-k.result in
    let to : ℕ = c.args.at + c.loop-j.j * 255 + 239 in
    let start = start_told _ _ _ (omega arith) c.row_start.ensures in
    let columns = columns_told _ _ _ _ c.requires.some c.columns_within-k.ensures in
    let zero : all_zero (bytes_at s from (to - from)) ≡ false = ap all_zero (bytes-part s from (to - from) (omega (arith, columns.within, c.requires.inside))) ∙ sym c.is_zero.ensures ∙ c.if-not-is_zero.true in
    clearing_not _ _ _ _ _ _ _ c.loop-j.invariant c.loop-j-test.true _ _ start columns zero

pub loop-j-preserved : goal.loop-j-preserved
loop-j-preserved c =
    let s : List ℕ = c.args.store.now in
    let from : ℕ = c.args.at + c.loop-j.j * 255 + c.columns_within-k.result in
    let to : ℕ = c.args.at + c.loop-j.j * 255 + 239 in
    let start = start_told _ _ _ (omega arith) c.row_start.ensures in
    let columns = columns_told _ _ _ _ c.requires.some c.columns_within-k.ensures in
    let zero : all_zero (bytes_at s from (to - from)) ≡ true = ap all_zero (bytes-part s from (to - from) (omega (arith, columns.within, c.requires.inside))) ∙ sym c.is_zero.ensures ∙ c.if-not-is_zero.false in
    clearing_next _ _ _ _ _ _ _ c.loop-j.invariant c.loop-j-test.true _ _ start columns zero

pub returns : goal.returns
returns c = clearing_end _ _ _ _ _ _ _ c.loop-j.invariant c.loop-j-test.false

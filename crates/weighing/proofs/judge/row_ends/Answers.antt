-- Where no column reaches beyond the file there is nothing to look at; else those behind the last within it are.
-- Assumes nothing.
use mathlib.Core.Path.{◌≡◌, ap, ◌∙◌}
use mathlib.Core.List.{List}
use Prim.Native.Nat.{ℕ, ◌-◌}
use native.Mathlib.Omega.{arith}
use lib.Dec.{eqb}
use lib.ListN.{length, take, drop}
use Rattle.std.proofs.Common.{rules, tests}
use Rattle.std.proofs.lemmas.Iterator.{YieldsList-from_slice}
use Rattle.std.proofs.lemmas.Iterator.Search.{all_from_yields_List}
use Rattle.layout.proofs.Spans.{row_told}
use Rattle.contents.specs.Contents.{bytes_at}
use Rattle.columns.specs.Handing.{all_zero}
use Rattle.columns.proofs.ZeroLaws.{beyond-none, beyond_from, zero_at}
use Rattle.weighing.proofs.judge.row_ends.Goals as goal

pub returns-then-k-eq239 : goal.returns-then-k-eq239
returns-then-k-eq239 c = beyond-none _ _ _ _ _ (row_told _ _ _ _ _ c.requires.0 c.requires.2 c.row_start.ensures c.columns_within-k.ensures) c.if-k-eq239.true

pub returns : goal.returns
returns c =
    let k : ℕ = c.columns_within-k.result in
    let columns = row_told _ _ _ _ _ c.requires.0 c.requires.2 c.row_start.ensures c.columns_within-k.ensures in
    let row : List ℕ = c.added_to.result in
    let told = all_from_yields_List (λ x. eqb x 0) _ _ _ c.all.ensures.ran (YieldsList-from_slice (take (239 - k) (drop k row)) cc) (λ x b q k. search (rules, tests)) in
    told ∙ zero_at row k 239 (omega (arith, columns.within)) (let long : length row ≡ 255 = search rules in omega arith) ∙ ap (λ (l : List ℕ). all_zero (bytes_at l k (239 - k))) c.added_to.ensures
    ∙ beyond_from _ _ _ _ _ columns

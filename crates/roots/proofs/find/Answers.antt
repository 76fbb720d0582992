-- From exponent 0 alone to all of them.
-- Assumes nothing.
use mathlib.Core.Path.{◌≡◌, sym, ap, subst, ◌∙◌}
use mathlib.Core.List.{List}
use Prim.Native.Nat.{ℕ}
use native.Mathlib.Omega.{arith}
use lib.ListN.{get_or}
use Rattle.roots.specs.Roots.{roots_of}
use Rattle.roots.proofs.Moving.{stretched_byte}
use Rattle.roots.proofs.Finding.{Finding, finding_start, finding_more, finding_end}
use borrow.Author.Rules.{rules}
use Rattle.roots.proofs.find.Goals as goal

as_words : {v t at : List ℕ} {first top n b : ℕ} → t ≡ v → Finding v first top n at v b → Finding t first top n at t b
as_words {v} {t} {at} {first} {top} {n} {b} e was = subst (λ (l : List ℕ). Finding l first top n at l b) (sym e) was

pub loop-b-init : goal.loop-b-init
loop-b-init c =
    let v : List ℕ = c.args.v in
    let fit : (i : ℕ) → mir.Val.Fits mir.Syntax.w8 (get_or v i 0) = λ i. search rules in
    as_words c.wide-t.ensures
    (finding_start v _ _ _ _ (λ i. (fit i).fits) c.last-top.ensures.1 c.at_one.ensures c.note-n.ensures.held)

pub move_on-w-requires : goal.move_on-w-requires
move_on-w-requires c =
    let inv = c.loop-b.invariant in
    (c.last-top.ensures.0, inv.short, c.table-table.ensures, stretched_byte inv.stretched)

pub loop-b-preserved : goal.loop-b-preserved
loop-b-preserved c =
    finding_more c.loop-b.invariant _ _ c.move_on-w.ensures (omega arith) _ _ c.look-n.ensures.held

pub returns : goal.returns
returns c = finding_end c.loop-b.invariant (omega arith) ∙ ap roots_of c.wide-t.ensures

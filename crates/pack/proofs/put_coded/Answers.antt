-- One run more is written behind the rows that stand already.
use mathlib.Core.Path.{ap, ◌∙◌}
use mathlib.Core.List.{List}
use Prim.Native.Nat.{ℕ, ◌+◌, ◌*◌}
use borrow.Author.Rules.{rules}
use lib.ListN.{length}
use lib.Seq.{sets}
use Rattle.pack.specs.Inner.{coded_rows}
use Rattle.pack.proofs.Runs.{run_more}
use Rattle.pack.proofs.put_coded.Goals as goal

pub loop-done-preserved : goal.loop-done-preserved
loop-done-preserved c =
    let a = c.args in
    let r = c.put_run-done.ensures.1 in (
      search rules,
      c.put_run-done.ensures.2
          ∙ ap (λ (l : List ℕ). sets l (c.loop-done.done * 255) (coded_rows a.file.now a.m (a.first + c.loop-done.done) c.put_run-done.result)) c.loop-done.invariant.1
          ∙ run_more a.file.now a.m a.first a.count (length a.out.now) 0 c.requires a.out.now c.loop-done.done c.put_run-done.result (search rules),
    )

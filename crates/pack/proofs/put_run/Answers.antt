-- `pack::put_run` meets its contract: the rows of one table start at bytes of the file that follow each other, so that one call of `put_rows` writes them, in the
-- part of the output that is lent to it. Assumes nothing.
use mathlib.Core.Path.{refl}
use Prim.Native.Nat.{◌%◌, ◌<◌}
use native.Mathlib.Nat.{mod-lt}
use native.Mathlib.Omega.{arith}
use lib.ListN.{length}
use Rattle.pack.proofs.Runs.{run-written}
use Rattle.pack.proofs.put_run.Goals as goal

pub returns : goal.returns
returns c =
    let a = c.args in
    let r : a.q % a.m < a.m = mod-lt a.q c.requires.1.rows in (
      omega arith,
      omega arith,
      run-written a.file.now a.m a.q a.left (length a.out.now) a.at c.requires.1 c.requires.0 c.min-n.result (omega arith) (omega arith)
          a.out.now _ _ c.row_start.ensures refl c.put_rows.ensures.1,
    )

-- Bytes of the information columns are the file's own (`info_run`), those of the check columns the rows' (`table-run`).
use Prim.Native.Nat.{◌*◌, ◌%◌, ◌<◌}
use native.Mathlib.Nat.{mod-lt, mul-pos, zero-lt-suc}
use native.Mathlib.Omega.{arith}
use Rattle.laying.proofs.Positions.{table-run, info_run}
use Rattle.laying.proofs.put_run.Goals as goal

pub returns-then-p-m : goal.returns-then-p-m
returns-then-p-m c =
    let a = c.args in (
      omega arith,
      omega arith,
      info_run a.m c.requires.1.rows a.file.now a.j c.min-n.result a.out.now _ a.o (omega arith) c.put_info.ensures,
    )

pub returns : goal.returns
returns c =
    let inside : c.args.j % (255 * c.args.m) < 255 * c.args.m = mod-lt c.args.j (mul-pos (zero-lt-suc 254) c.requires.1.rows) in
    let a = c.args in
    let l = inside in (
      omega arith,
      omega arith,
      table-run a.m c.requires.1.rows a.file.now a.j c.min-n-2.result a.out.now _ a.o (omega arith) c.put_checks.ensures,
    )

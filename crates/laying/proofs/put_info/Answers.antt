-- What the file has is copied, and zeros are put behind it (`info_written`).
use native.Mathlib.Omega.{arith}
use Rattle.laying.proofs.Copying.{info_written}
use Rattle.laying.proofs.put_info.Goals as goal

pub returns : goal.returns
returns c =
    let a = c.args in
    info_written a.file.now a.at a.n _ _ c.min-a.ensures c.min-b.ensures a.out.now _ a.o (omega arith) c.copy_in.ensures _ _ (omega arith) (c.fill.ensures.after (λ y e. e))
